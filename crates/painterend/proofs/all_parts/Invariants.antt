-- Each turn is a turn of a course, and leaves the next one ready.
use Rattle.std.proofs.Common.{◌≡◌}
use Rattle.painterend.specs.Turn.{Ready}
use Rattle.painterend.specs.declared.turns.Progress.{Progress}
use Rattle.painterend.proofs.Printing.{Printing}
use Rattle.painterend.proofs.all_parts.Given as goal

abbrev pub invariant-loop : goal.invariant-loop
invariant-loop g l = (l.s.progress ≡ Progress.Reading → Ready l.s)
    × Printing l.s l.desk.buffer (g.F.Read.remaining l.initial.file) (g.F.Read.remaining l.file) (g.P.Write.contents l.initial.paper) (g.P.Write.contents l.paper)

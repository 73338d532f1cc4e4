-- No condition before the i-th is bad.
use mathlib.Core.Path.{◌≡◌}
use Rattle.wire.proofs.Checks.{conditions_from}
use Rattle.wire.proofs.fields.first_unlisted.Given as goal

abbrev pub invariant-loop-i : goal.invariant-loop-i
invariant-loop-i l = conditions_from l.market l.at l.plain 0 ≡ conditions_from l.market l.at l.plain l.i

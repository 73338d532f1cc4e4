-- The separator and the first bytes as they are shown, as far as the loop has come.
use mathlib.Core.List.{◌∷◌, map}
use lib.ListN.{take}
use Rattle.columns.specs.Text.{comma}
use Rattle.columns.specs.Held.{Adds}
use Rattle.columns.proofs.Line.shown_column.Given as goal

abbrev pub invariant-loop-b : goal.invariant-loop-b
invariant-loop-b g l = Adds l.fn.self (comma ∷ map g.rule (take l.b-index l.s)) l.self

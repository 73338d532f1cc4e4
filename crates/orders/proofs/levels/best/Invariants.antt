-- So far it is the best of the orders passed.
use mathlib.Core.Path.{◌≡◌}
use lib.ListN.{take}
use Rattle.orders.specs.Levels.{best_of}
use Rattle.orders.proofs.levels.best.Given as goal

abbrev pub invariant-loop-o : goal.invariant-loop-o
invariant-loop-o l = l.best ≡ best_of l.buy (take l.o-index l.shelf)

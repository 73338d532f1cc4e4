-- So far it is the sum of the orders passed, and each adds at most a volume.
use mathlib.Core.Path.{◌≡◌}
use Prim.Native.Nat.{◌≤◌, ◌*◌}
use lib.ListN.{take}
use Rattle.places.specs.Places.{sum_by}
use Rattle.orders.specs.Levels.{shares_at}
use Rattle.orders.specs.Passing.{most_shares}
use Rattle.orders.proofs.levels.shares_at.Given as goal

abbrev pub invariant-loop-o : goal.invariant-loop-o
invariant-loop-o l = record { is_sum : l.sum ≡ sum_by (shares_at l.buy l.price) (take l.o-index l.shelf); has_room : l.sum ≤ l.o-index * most_shares }

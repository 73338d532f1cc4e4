-- So far it is the row of the orders passed, and each adds at most a volume and one order.
use mathlib.Core.Path.{◌≡◌}
use Prim.Native.Nat.{◌≤◌, ◌*◌}
use lib.ListN.{take}
use Rattle.orders.specs.Rows.{row_after}
use Rattle.orders.specs.Passing.{most_shares}
use Rattle.orders.proofs.rows.row_after.Given as goal

abbrev pub invariant-loop-o : goal.invariant-loop-o
invariant-loop-o l = record { is_row : l.row ≡ row_after l.buy l.before (take l.o-index l.shelf); size : l.row.size ≤ l.o-index * most_shares; orders : l.row.orders ≤ l.o-index }

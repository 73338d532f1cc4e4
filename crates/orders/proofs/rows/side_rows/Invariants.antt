-- After i turns the first i rows are there, the others are empty, and those to come follow the last one found.
use mathlib.Core.Path.{◌≡◌}
use lib.ListN.{length}
use Rattle.orders.specs.Rows.{levels}
use Rattle.orders.proofs.SideRows.{Filled}
use Rattle.orders.proofs.rows.side_rows.Given as goal

abbrev pub invariant-loop-i : goal.invariant-loop-i
invariant-loop-i l = record { ten : length l.rows ≡ levels; filled : Filled l.buy l.shelf l.before l.i l.rows }

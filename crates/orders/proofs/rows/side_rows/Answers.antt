-- After i turns the first i rows are there, the others are empty, and those to come follow the last one found.
use mathlib.Core.Path.{◌≡◌, ap, ◌∙◌}
use native.Mathlib.Omega.{arith}
use borrow.Author.Tests.{not-true, not-false}
use lib.ListN.{length, length-replicate, length-set}
use Rattle.orders.specs.Rows.{levels, no_row}
use Rattle.orders.proofs.SideRows.{filled_none, filled_next, filled_short, filled_all}
use Rattle.orders.proofs.rows.side_rows.Goals as goal

pub loop-i-init : goal.loop-i-init
loop-i-init c = record { ten = ap length c.no_rows-rows.ensures ∙ length-replicate levels no_row; filled = rw (c.no_rows-rows.ensures, c.no_row-before.ensures) (filled_none c.args.buy c.args.shelf.now) }

pub returns-then-not-row : goal.returns-then-not-row
returns-then-not-row c = filled_short c.args.buy c.args.shelf.now _ _ _ (omega arith) c.loop-i.invariant.filled (not-true _ (rw c.row_after-row.ensures at c.if-not-row.true))

pub loop-i-preserved : goal.loop-i-preserved
loop-i-preserved c = record {
  ten = simp length-set c.loop-i.invariant.ten;
  filled = rw c.row_after-row.ensures (filled_next c.args.buy c.args.shelf.now _ _ _ (omega arith) c.loop-i.invariant.filled (not-false _ (rw c.row_after-row.ensures at c.if-not-row.false)));
}

pub returns : goal.returns
returns c = let e : c.loop-i.i ≡ levels = omega arith in filled_all c.args.buy c.args.shelf.now _ _ (rw e at c.loop-i.invariant.filled)

-- So far it is the row of the orders passed, and each adds at most a volume and one order.
use mathlib.Core.Path.{ap, ◌∙◌}
use native.Mathlib.Omega.{arith}
use Rattle.places.specs.Places.{fold}
use Rattle.orders.specs.Rows.{row_after}
use Rattle.orders.specs.State.{no_order}
use Rattle.orders.specs.Passing.{row_step}
use Rattle.orders.proofs.Passing.{row_with_more}
use Rattle.orders.proofs.rows.row_after.Goals as goal

pub loop-o-init : goal.loop-o-init
unfolding fold row_after
loop-o-init c = let e = c.no_row-row.ensures in record { is_row = e; size = rw e (omega arith); orders = rw e (omega arith) }

pub loop-o-preserved : goal.loop-o-preserved
loop-o-preserved c = record { is_row = c.row_with-row.ensures.steps ∙ ap (row_step c.args.buy c.args.before _) c.loop-o.invariant.is_row ∙ row_with_more c.args.buy c.args.shelf.now c.loop-o.o-index no_order (omega arith) c.args.before; size = omega (arith, c.row_with-row.ensures.grows.size); orders = omega (arith, c.row_with-row.ensures.grows.orders) }

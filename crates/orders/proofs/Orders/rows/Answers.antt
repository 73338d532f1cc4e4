-- The rows over the places are those of the live orders; past the eighth symbol there are none.
use mathlib.Core.Path.{sym, ap, ◌∙◌}
use borrow.Author.Rules.{rules}
use Rattle.orders.specs.State.{shelf_at, live_at}
use Rattle.orders.specs.Rows.{side_rows}
use Rattle.orders.proofs.Storing.{none_past}
use Rattle.orders.proofs.SideRows.{side_view, side_none}
use Rattle.orders.proofs.Orders.rows.Goals as goal

pub returns-in_default : goal.returns-in_default
returns-in_default c = c.no_rows.ensures ∙ sym (ap (side_rows c.args.buy) (none_past c.args.self.now c.args.k (search rules) c.in_default.ensures.none) ∙ side_none c.args.buy)

pub returns : goal.returns
unfolding live_at
returns c = c.side_rows.ensures ∙ ap (side_rows c.args.buy) (c.shelf.ensures ∙ ap (shelf_at c.args.self.now) c.in-Some.ensures.seat) ∙ sym (side_view c.args.buy (shelf_at c.args.self.now c.args.k))

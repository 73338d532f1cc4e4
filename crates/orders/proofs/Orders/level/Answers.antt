-- The best price and the sum over the places are those of the live orders; past the eighth symbol there are none.
use mathlib.Core.Path.{sym, ap, ◌∙◌}
use borrow.Author.Rules.{rules}
use Rattle.orders.specs.State.{shelf_at, live_at}
use Rattle.orders.specs.Levels.{level_of}
use Rattle.orders.proofs.Storing.{none_past}
use Rattle.orders.proofs.Quoting.{level_none, level_view}
use Rattle.orders.proofs.Orders.level.Goals as goal

pub returns-in_err-seat : goal.returns-in_err-seat
returns-in_err-seat c = c.from_residual.ensures ∙ sym (ap (level_of c.args.buy) (none_past c.args.self.now c.args.k (search rules) c.in_err-seat.ensures.none) ∙ level_none c.args.buy)

pub returns-in_err-price : goal.returns-in_err-price
unfolding live_at
returns-in_err-price c = rw (c.from_residual-in_err-price.ensures, level_view c.args.buy (shelf_at c.args.self.now c.args.k), ← c.in_ok-seat.ensures.seat, ← c.shelf-shelf.ensures, ← c.best.ensures, c.in_err-price.was)

pub returns : goal.returns
unfolding live_at
returns c = rw (level_view c.args.buy (shelf_at c.args.self.now c.args.k), ← c.in_ok-seat.ensures.seat, ← c.shelf-shelf.ensures, ← c.best.ensures, c.in_ok-price.was, c.shares_at-size.ensures)

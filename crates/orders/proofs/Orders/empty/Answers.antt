-- Each range is filled with what is empty.
use mathlib.Core.Bool.{false}
use native.Mathlib.Omega.{arith}
use borrow.Author.Rules.{rules}
use Rattle.places.proofs.EightShelves.{shelf_reach}
use Rattle.orders.specs.State.{orders_each, no_order}
use Rattle.orders.proofs.Storing.{filled_is_emptied}
use Rattle.orders.proofs.Orders.empty.Goals as goal

pub returns : goal.returns
returns c =
    let k = c.args.seat.place in
    let b = c.args.self.now in
    let below = c.args.seat.below in
    λ i. record {
      places = filled_is_emptied orders_each k no_order b.places (shelf_reach orders_each k b.places (search rules) below) _ _ (omega arith) (rw c.no_order.ensures at (c.fill.ensures.after (λ y p. p))) i;
      numbers = filled_is_emptied orders_each k 0 b.numbers (shelf_reach orders_each k b.numbers (search rules) below) _ _ (omega arith) (c.fill-2.ensures.after (λ y p. p)) i;
      lives = filled_is_emptied orders_each k false b.lives (shelf_reach orders_each k b.lives (search rules) below) _ _ (omega arith) (c.fill-3.ensures.after (λ y p. p)) i;
      spans = filled_is_emptied orders_each k 0 b.spans (shelf_reach orders_each k b.spans (search rules) below) _ _ (omega arith) (c.fill-4.ensures.after (λ y p. p)) i;
    }

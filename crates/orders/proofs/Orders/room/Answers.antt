-- The search of `places`, on the shelf of the symbol.
use mathlib.Core.Path.{refl}
use borrow.Author.Rules.{rules}
use Rattle.orders.proofs.Finding.{room_at, room_place, near_place}
use Rattle.orders.proofs.Orders.room.Goals as goal

pub returns-clause-near : goal.returns-clause-near
returns-clause-near c = near_place _ _ (rw c.shelf.ensures at c.room.ensures)

pub returns-clause-empty : goal.returns-clause-empty
returns-clause-empty c w = room_place _ _ _ (rw c.shelf.ensures at c.room.ensures) (room_at c.args.self.now c.args.seat.place c.args.seat.below w (search rules) c.args.number _ refl)

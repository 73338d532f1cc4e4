-- The search of `places`, on the shelf of the symbol.
use mathlib.Core.Path.{refl}
use borrow.Author.Rules.{rules}
use Rattle.orders.proofs.Finding.{found_at, found_place, within_shelf}
use Rattle.orders.proofs.Orders.find.Goals as goal

pub returns-clause-within : goal.returns-clause-within
returns-clause-within c = within_shelf _ _ (rw c.shelf.ensures at c.find.ensures)

pub returns-clause-finds : goal.returns-clause-finds
returns-clause-finds c w = found_place _ _ _ _ (rw c.shelf.ensures at c.find.ensures) (found_at c.args.self.now c.args.seat.place c.args.seat.below w (search rules) c.args.number _ (search rules) refl)

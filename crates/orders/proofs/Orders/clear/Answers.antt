-- Every place of the symbol is empty after it.
use borrow.Author.Rules.{rules}
use Rattle.orders.proofs.Storing.{clears}
use Rattle.orders.proofs.Orders.clear.Goals as goal

pub returns-in-Some : goal.returns-in-Some
returns-in-Some c =
    let seat = c.in-Some.ensures.seat in
    rw (c.empty.ensures, seat) (clears c.args.self.now _ (record { places = search rules; spans = search rules }) (rw seat at c.in-Some.seat.below))

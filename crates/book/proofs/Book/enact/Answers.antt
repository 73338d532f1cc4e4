-- Whether the change fits decides: the deal goes with it and the number is used, or the symbol becomes stale with the number of the refusal.
use Rattle.book.proofs.Stores.{enacts_refused, enacts_done}
use Rattle.book.proofs.Book.enact.Goals as goal

pub returns-in-Ok : goal.returns-in-Ok
returns-in-Ok c = enacts_done c.args.self.now _ _ c.args.deal _ c.args.seat.below (λ w. (rw c.in-Ok.is at c.change.ensures).obeys c.args.seat.below w.orders)
    (record { trades = c.deal.new.self; lost = c.is_err-lost.result }) (λ w. rw c.is_err-lost.ensures.value (c.deal.ensures.obeys c.args.seat.below w.trades)) _ (λ w. c.count.ensures)

pub returns-in-Err : goal.returns-in-Err
returns-in-Err c = rw c.from.ensures (enacts_refused c.args.self.now _ _ c.args.deal _ _ (rw c.in-Err.is at c.change.ensures) _ c.make_stale.ensures)

-- What is kept of the symbol at the place that was found, summed. Whatever the orders and the market are.
use Rattle.book.proofs.Asking.{nobody, volume_missing, volume_at_lem}
use Rattle.book.specs.declared.Book.{Book}
use Rattle.book.proofs.quote.volume_among.Goals as goal

pub returns-in_default : goal.returns-in_default
returns-in_default c = λ o m.
    let b : Book = record { symbols = c.args.symbols.now; orders = o; trades = c.args.trades.now; market = m } in
    rw c.from.ensures (volume_missing b _ (nobody b _ (rw c.in_default.is at c.place_of.ensures)))

pub returns : goal.returns
returns c = λ o m.
    let b : Book = record { symbols = c.args.symbols.now; orders = o; trades = c.args.trades.now; market = m } in
    let at = (rw c.in-Some.is at c.place_of.ensures) in rw c.shares.ensures (volume_at_lem b _ _ at.0 at.1 _ c.standing-s.ensures)

-- Nobody is registered, no order is live, no trade is kept.
use Rattle.book.proofs.Beginning.{fresh}
use Rattle.book.proofs.Book.new.Goals as goal

pub returns : goal.returns
returns c = rw (c.new-symbols.ensures, c.new-orders.ensures, c.new-trades.ensures, c.from.ensures) (fresh _)

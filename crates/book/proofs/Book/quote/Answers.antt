-- The levels of the symbol that is shown.
use Rattle.book.proofs.Asking.{quote_hidden, quote_shown}
use Rattle.book.proofs.Book.quote.Goals as goal

pub returns-in-Ok : goal.returns-in-Ok
returns-in-Ok c = rw (c.level-in-Ok.ensures, c.level.ensures) (quote_shown c.args.self.now _ _ (rw c.in-Ok.is at c.shown.ensures))

pub returns-in-Err : goal.returns-in-Err
returns-in-Err c = rw (c.no_quote.ensures, c.from.ensures) (quote_hidden c.args.self.now _ _ (rw c.in-Err.is at c.shown.ensures))

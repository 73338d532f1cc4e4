-- The rows of the symbol that is shown.
use Rattle.book.proofs.Asking.{depth_hidden, depth_shown}
use Rattle.book.proofs.Book.depth.Goals as goal

pub returns-in-Ok : goal.returns-in-Ok
returns-in-Ok c = rw (c.rows-in-Ok.ensures, c.rows.ensures) (depth_shown c.args.self.now _ _ (rw c.in-Ok.is at c.shown.ensures))

pub returns-in-Err : goal.returns-in-Err
returns-in-Err c = rw (c.no_depth.ensures, c.from.ensures) (depth_hidden c.args.self.now _ _ (rw c.in-Err.is at c.shown.ensures))

-- With its orders gone and restarted the symbol is what a clear makes of it.
use Rattle.book.proofs.Acting.{clears_nobody, clears_symbol}
use Rattle.book.proofs.Book.restart.Goals as goal

pub returns-in_default : goal.returns-in_default
returns-in_default c = clears_nobody c.args.self.now _ _ (rw c.in_default.is at c.place_of.ensures)

pub returns : goal.returns
returns c = let at = (rw c.in-Some.is at c.place_of.ensures) in clears_symbol c.args.self.now _ _ _ at.0 at.1 _ c.restart.ensures _ c.clear.ensures

-- What is told of the entry is told of the symbol.
use Rattle.book.proofs.Asking.{tells}
use Rattle.book.proofs.Book.symbol.Goals as goal

pub returns : goal.returns
returns c = tells c.args.self.now _ _ c.told.ensures

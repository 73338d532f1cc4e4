-- Nobody is there, the symbol is stale, or it is shown.
use Rattle.book.proofs.Asking.{nobody, stale, shown_at}
use Rattle.book.proofs.Book.shown.Goals as goal

pub returns-in_default : goal.returns-in_default
returns-in_default c = nobody c.args.self.now _ (rw c.in_default.is at c.place_of.ensures)

pub returns-then-s : goal.returns-then-s
returns-then-s c = let at = (rw c.in-Some.is at c.place_of.ensures) in stale c.args.self.now _ _ at.0 at.1 _ c.standing-s.ensures c.if-s.true

pub returns : goal.returns
returns c = let at = (rw c.in-Some.is at c.place_of.ensures) in shown_at c.args.self.now _ _ at.0 at.1 _ c.standing-s.ensures c.if-s.false

-- In its turn the message is taken; else it is answered with what refuses it.
use Rattle.book.proofs.Book.meet.Goals as goal

pub returns-in-Ok : goal.returns-in-Ok
returns-in-Ok c = let due = (rw c.in-Ok.is at c.due.ensures) in due.1 _ _ (rw due.0 at c.take.ensures)

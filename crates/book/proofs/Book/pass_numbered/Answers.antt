-- In its turn the message is enacted.
use Rattle.book.proofs.Book.pass_numbered.Goals as goal

pub returns : goal.returns
returns c = let due = (rw c.in_ok-seat.was at c.due.ensures) in due.1 c.args.effect _ (rw (due.0, c.change_of.ensures, c.deal_of.ensures) at c.enact.ensures)

-- The symbols take the new one in or refuse it, and nothing else changes.
use Rattle.book.proofs.Registering.{registering_steps}
use Rattle.book.proofs.Book.register.Goals as goal

pub returns-in-Ok : goal.returns-in-Ok
returns-in-Ok c = registering_steps c.args.self c.args.index c.args.name.now c.args.scale _ (rw c.in-Ok.is at c.register.ensures)

pub returns-in-Err : goal.returns-in-Err
returns-in-Err c = rw c.from-answer.ensures (registering_steps c.args.self c.args.index c.args.name.now c.args.scale _ (rw c.in-Err.is at c.register.ensures))

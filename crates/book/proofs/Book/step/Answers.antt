-- What was refused is handed on with its number and offset, and a message acts as it means.
use Rattle.book.specs.State.{view}
use Rattle.book.proofs.Acting.{nothing_steps, refused_read_lem, read_acts}
use Rattle.book.proofs.Book.step.Goals as goal

pub returns-in_default : goal.returns-in_default
returns-in_default c = rw (c.number_of.ensures, c.in_default.is) (nothing_steps _ _ _ (λ w. refused_read_lem _ _))

pub returns : goal.returns
returns c = rw (c.in-Ok.is, read_acts (view c.args.self) c.in-Ok.d) c.act.ensures

-- What was refused is answered with its number, and a message acts as it means.
use Rattle.std.proofs.lemmas.Result.{err_from_is_err_and}
use Rattle.book.specs.State.{view}
use Rattle.book.proofs.Acting.{nothing_steps, refused_read_lem, read_acts}
use Rattle.book.proofs.Book.pass.Goals as goal

pub returns-in_err-d : goal.returns-in_err-d
returns-in_err-d c = let p = err_from_is_err_and c.from_residual.result c.from_residual.ensures.1 in rw (p.1, p.2, c.in_err-d.was) (nothing_steps _ _ _ (λ w. refused_read_lem _ _))

pub returns-in-Clear : goal.returns-in-Clear
returns-in-Clear c = rw (c.in_ok-d.was, read_acts (view c.args.self.now) c.in_ok-d.d, ← c.act_of.ensures, c.in-Clear.is) c.restart.ensures

pub returns-in-Numbered : goal.returns-in-Numbered
returns-in-Numbered c = rw (c.in_ok-d.was, read_acts (view c.args.self.now) c.in_ok-d.d, ← c.act_of.ensures, c.in-Numbered.is) c.pass_numbered.ensures

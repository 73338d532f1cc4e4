-- There are fewer messages than a position can count, so none is left out.
use native.Mathlib.Omega.{arith}
use Rattle.book.proofs.Walking.{runs_all}
use Rattle.book.proofs.Book.run.Goals as goal

pub returns : goal.returns
returns c = runs_all _ _ _ _ _ c.going-r.result _ (omega (arith, c.well_formed)) c.going-r.ensures

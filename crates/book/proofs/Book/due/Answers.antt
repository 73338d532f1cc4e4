-- Nobody is there; or the turn decides.
use mathlib.Core.Path.{refl}
use native.Mathlib.Omega.{arith}
use borrow.Author.Rules.{rules}
use Rattle.book.proofs.Acting.{turn_some, turn_nobody, turn_above, turn_refused, turn_due}
use Rattle.book.proofs.Book.due.Goals as goal

pub returns-in_default : goal.returns-in_default
returns-in_default c e = turn_nobody c.args.self.now _ _ _ refl e (rw c.in_default.is at c.seat.ensures)

pub returns-in-Ok : goal.returns-in-Ok
returns-in-Ok c = (refl, λ e r. turn_due c.args.self.now _ _ _ (rw c.in-Some.is at c.seat.ensures) c.in-Some.seat.below 0 (rw c.in-Ok.is at c.turn_at.ensures) e refl (omega arith) r)

pub returns-in-Err-Gap : goal.returns-in-Err-Gap
returns-in-Err-Gap c e =
    turn_above c.args.self.now _ _ _ (rw c.in-Some.is at c.seat.ensures) c.in-Some.seat.below 7 (rw (c.in-Err-Gap.is, c.in-Err-Gap.field-0-is) at c.turn_at.ensures) e refl _ c.make_stale.ensures

pub returns-in-Err : goal.returns-in-Err
returns-in-Err c e = turn_refused c.args.self.now _ _ _ (rw c.in-Some.is at c.seat.ensures) c.in-Some.seat.below _ (rw c.in-Err.is at c.turn_at.ensures) e (search rules) (turn_some _)

-- Each branch is a clause of the rule of a replace; the new number is refused only where it lies at another place than the old order.
use Rattle.std.proofs.lemmas.Result.{err_from_is_err_and}
use native.Mathlib.Omega.{arith}
use borrow.Author.Tests.{not-true, not-false}
use Rattle.orders.proofs.Judging.{replace_missing, replace_other_side, replace_moves, replace_instead, replace_same, replace_twice}
use Rattle.orders.proofs.Orders.judge_replace.Goals as goal

pub returns-in_err-x : goal.returns-in_err-x
returns-in_err-x c live w =
    let p = err_from_is_err_and c.from_residual.result c.from_residual.ensures.1 in
    let f = c.in_err-x.ensures w in rw (p.1, p.2, f.0) (replace_missing _ _ w.whole _ _ f.1 (omega arith) _ _ _ _)

pub returns-then-x-o : goal.returns-then-x-o
returns-then-x-o c live w = let f = c.in_ok-x.ensures w in replace_other_side _ _ w.whole _ _ f.1 f.0 _ live (not-true _ (rw f.2 at c.if-x-o.true))

pub returns-then-i-j : goal.returns-then-i-j
returns-then-i-j c live w = let f = c.in_ok-x.ensures w in replace_same _ _ w.whole _ _ f.1 f.0 _ live (not-false _ (rw f.2 at c.if-x-o.false)) _ (c.in-Some.ensures.finds w) c.if-i-j.true

pub returns-in-Some : goal.returns-in-Some
returns-in-Some c live w = let f = c.in_ok-x.ensures w in replace_twice _ _ w.whole _ _ f.1 f.0 _ live (not-false _ (rw f.2 at c.if-x-o.false)) _ (c.in-Some.ensures.finds w) c.in-Some.ensures.within c.if-i-j.false

pub returns-in-Some-room : goal.returns-in-Some-room
returns-in-Some-room c live w = let f = c.in_ok-x.ensures w in replace_moves _ _ w.whole _ _ f.1 f.0 _ live (not-false _ (rw f.2 at c.if-x-o.false)) _ (c.in_default.ensures.finds w) (omega arith) _ (c.in-Some-room.ensures.empty w) c.in-Some-room.ensures.near.0 c.in-Some-room.ensures.near.1

pub returns-in-None : goal.returns-in-None
returns-in-None c live w = let f = c.in_ok-x.ensures w in replace_instead _ _ w.whole _ _ f.1 f.0 _ live (not-false _ (rw f.2 at c.if-x-o.false)) _ (c.in_default.ensures.finds w) (omega arith) c.in-None.ensures.near

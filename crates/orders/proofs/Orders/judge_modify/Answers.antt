-- Each branch is a clause of the rule of a modify.
use Rattle.std.proofs.lemmas.Result.{err_from_is_err_and}
use native.Mathlib.Omega.{arith}
use borrow.Author.Tests.{not-true, not-false}
use Rattle.orders.proofs.Judging.{modify_missing, modify_other_side, modify_fits}
use Rattle.orders.proofs.Orders.judge_modify.Goals as goal

pub returns-in_err-x : goal.returns-in_err-x
returns-in_err-x c w =
    let p = err_from_is_err_and c.from_residual.result c.from_residual.ensures.1 in
    let f = c.in_err-x.ensures w in rw (p.1, p.2, f.0) (modify_missing _ _ w.whole _ _ f.1 (omega arith) _ _ _)

pub returns-then-x-o : goal.returns-then-x-o
returns-then-x-o c w = let f = c.in_ok-x.ensures w in modify_other_side _ _ w.whole _ _ f.1 f.0 _ _ _ (not-true _ (rw f.2 at c.if-x-o.true))

pub returns : goal.returns
returns c w = let f = c.in_ok-x.ensures w in rw f.2 (modify_fits _ _ w.whole _ _ f.1 f.0 _ _ _ (not-false _ (rw f.2 at c.if-x-o.false)))

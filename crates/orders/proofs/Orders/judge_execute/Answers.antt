-- Each branch is a clause of the rule of an execute.
use Rattle.std.proofs.lemmas.Result.{err_from_is_err_and}
use native.Mathlib.Omega.{arith}
use Rattle.orders.proofs.Judging.{execute_missing, execute_over, execute_all, execute_some}
use Rattle.orders.proofs.Orders.judge_execute.Goals as goal

pub returns-in_err-x : goal.returns-in_err-x
returns-in_err-x c w =
    let p = err_from_is_err_and c.from_residual.result c.from_residual.ensures.1 in
    let f = c.in_err-x.ensures w in rw (p.1, p.2, f.0) (execute_missing _ _ w.whole _ _ f.1 (omega arith) _)

pub returns-then-x-volume : goal.returns-then-x-volume
returns-then-x-volume c w = let f = c.in_ok-x.ensures w in execute_over _ _ w.whole _ _ f.1 f.0 _ (rw f.2 at c.if-x-volume.true)

pub returns-then-x-volume-2 : goal.returns-then-x-volume-2
returns-then-x-volume-2 c w = let f = c.in_ok-x.ensures w in rw c.no_order.ensures (execute_all _ _ w.whole _ _ f.1 f.0 _ (rw f.2 at c.if-x-volume-2.true))

pub returns : goal.returns
returns c w = let f = c.in_ok-x.ensures w in rw f.2 (execute_some _ _ w.whole _ _ f.1 f.0 _ (rw f.2 at c.if-x-volume.false) (rw f.2 at c.if-x-volume-2.false))

-- Each branch is a clause of the rule of a delete.
use Rattle.std.proofs.lemmas.Result.{err_from_is_err_and}
use native.Mathlib.Omega.{arith}
use Rattle.orders.proofs.Judging.{delete_missing, delete_fits}
use Rattle.orders.proofs.Orders.judge_delete.Goals as goal

pub returns-in_err-x : goal.returns-in_err-x
returns-in_err-x c w =
    let p = err_from_is_err_and c.from_residual.result c.from_residual.ensures.1 in
    let f = c.in_err-x.ensures w in rw (p.1, p.2, f.0) (delete_missing _ _ w.whole _ _ f.1 (omega arith))

pub returns : goal.returns
returns c w = let f = c.in_ok-x.ensures w in rw c.no_order.ensures (delete_fits _ _ w.whole _ _ f.1 f.0)

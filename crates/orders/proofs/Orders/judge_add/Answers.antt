-- Each branch is a clause of the rule of an add.
use Rattle.std.proofs.lemmas.Result.{err_from_is_err_and}
use native.Mathlib.Omega.{arith}
use Rattle.orders.proofs.Finding.{there, nowhere}
use mathlib.Core.Path.{◌≡◌, sym, ◌∙◌}
use Rattle.std.specs.Prelude.{Some, None}
use Rattle.orders.proofs.Judging.{add_twice, add_crowded, add_fits}
use Rattle.orders.specs.declared.Unfit.{Unfit}
use Rattle.orders.proofs.Orders.judge_add.Goals as goal

pub returns-then-is_some : goal.returns-then-is_some
returns-then-is_some c live w =
    add_twice _ _ w.whole _ live _ (c.find.ensures.finds w) (there _ (sym c.is_some.ensures ∙ c.if-is_some.true) c.find.ensures.within)

pub returns-in_err-j : goal.returns-in_err-j
returns-in_err-j c live w =
    let p = err_from_is_err_and c.from_residual.result c.from_residual.ensures.1 in
    let none : c.room.result ≡ None = grind arith in
    let full : c.in_err-j.field-0.0 ≡ Unfit.NoRoom = grind arith in
    rw (p.1, p.2, full) (add_crowded _ _ w.whole _ live _ (c.find.ensures.finds w) (nowhere _ (sym c.is_some.ensures ∙ c.if-is_some.false)) _ (rw none at (c.room.ensures.empty w)) (omega arith))

pub returns : goal.returns
returns c live w =
    let some : c.room.result ≡ Some c.in_ok-j.j = grind arith in
    let near = rw some at c.room.ensures.near in
    add_fits _ _ w.whole _ live _ (c.find.ensures.finds w) (nowhere _ (sym c.is_some.ensures ∙ c.if-is_some.false)) _ (rw some at (c.room.ensures.empty w)) near.0 near.1

-- The verdict is the rule's, and settling it is the promise.
use mathlib.Core.Path.{◌≡◌}
use native.Mathlib.Omega.{arith}
use Rattle.std.specs.Prelude.{Some, None, Ok, Err}
use Rattle.std.proofs.lemmas.Result.{err_from_is_err_and}
use Rattle.orders.proofs.Storing.{changes, changes_nothing}
use Rattle.orders.specs.declared.Unfit.{Unfit}
use Rattle.orders.proofs.Orders.change.Goals as goal

pub returns-in_err-seat : goal.returns-in_err-seat
returns-in_err-seat c =
    let p = err_from_is_err_and c.from_residual.result c.from_residual.ensures.1 in
    let none : c.of.result ≡ None = grind arith in
    let unfit : c.in_err-seat.field-0.0 ≡ Unfit.Misfit = grind arith in
    rw (p.1, p.2, unfit) (changes_nothing _ _ _ (rw none at c.of.ensures.none))

pub returns-in_err-v : goal.returns-in_err-v
returns-in_err-v c =
    let p = err_from_is_err_and c.from_residual-in_err-v.result c.from_residual-in_err-v.ensures.1 in
    let some : c.of.result ≡ Some c.in_ok-seat.seat = grind arith in
    let seat = rw some at c.of.ensures.seat in
    rw (p.1, p.2, ← seat) (changes c.args.self.now c.in_ok-seat.seat.place c.args.c (Err c.in_err-v.field-0.0) c.in_ok-seat.seat.below c.in_err-v.ensures)

pub returns : goal.returns
returns c =
    let some : c.of.result ≡ Some c.in_ok-seat.seat = grind arith in
    let seat = rw some at c.of.ensures.seat in
    rw (c.settle.ensures, ← seat) (changes c.args.self.now c.in_ok-seat.seat.place c.args.c (Ok c.in_ok-v.v) c.in_ok-seat.seat.below c.in_ok-v.ensures)

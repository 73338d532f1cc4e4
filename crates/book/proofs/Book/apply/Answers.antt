-- What reaches from the position decides: a stop, or a step over the bytes that it reaches.
use mathlib.Core.Path.{sym, ap, ◌∙◌}
use native.Mathlib.Nat.{add-sub_cancel_left}
use native.Mathlib.Omega.{arith}
use lib.ListN.{take, drop}
use Rattle.wire.specs.Reading.{reached_as, read_of}
use Rattle.book.proofs.Walking.{offset_read, unreached, move_stops, move_within, move_goes}
use Rattle.book.proofs.Book.apply.Goals as goal

pub overflow_add-end : goal.overflow_add-end
overflow_add-end c = omega (arith, move_within c.args.s.now c.args.at c.in-Ok.size (sym c.reach_at-reach.ensures ∙ ap reached_as c.in-Ok.is), c.well_formed)

pub slice_bounds-decode-end : goal.slice_bounds-decode-end
slice_bounds-decode-end c = move_within c.args.s.now c.args.at c.in-Ok.size (sym c.reach_at-reach.ensures ∙ ap reached_as c.in-Ok.is)

pub returns-in-Ok : goal.returns-in-Ok
returns-in-Ok c = let a = c.args in
    let s = a.s.now in
    let n = c.in-Ok.size in
    move_goes a.self s a.at n (sym c.reach_at-reach.ensures ∙ ap reached_as c.in-Ok.is) c.decode-read.result _
    (c.decode-read.ensures.reads ∙ (λ i. read_of (c.market.ensures i) (take (add-sub_cancel_left a.at n i) (drop a.at s))))
    c.step-r.ensures _ (c.offset_of.ensures ∙ offset_read c.decode-read.result)

pub returns-in-Err : goal.returns-in-Err
returns-in-Err c = rw (c.number.ensures, c.from.ensures) (move_stops c.args.self c.args.s.now c.args.at _ (sym c.reach_at-reach.ensures ∙ ap reached_as c.in-Err.is ∙ unreached c.in-Err.e))

-- The state is changed in place: what is left of the walk from here gives what the walk from the start gives. Each turn is a step of the state.
use mathlib.Core.Path.{sym, ap, ◌∙◌}
use native.Mathlib.Omega.{arith}
use Rattle.wire.specs.Reading.{reached_as}
use Rattle.book.proofs.Walking.{unreached, left_all, move_within, turn_stops, turn_full, turn_less, turn_on}
use Rattle.book.proofs.Book.going.Goals as goal

pub loop-size-init : goal.loop-size-init
loop-size-init c = left_all _ _ _ _ _

pub overflow_add-end : goal.overflow_add-end
overflow_add-end c = omega (arith, move_within c.args.s.now c.loop-size.here c.in-Ok.size (sym c.reach_at.ensures ∙ ap reached_as c.in-Ok.is), c.well_formed)

pub slice_bounds-decode-end : goal.slice_bounds-decode-end
slice_bounds-decode-end c = move_within c.args.s.now c.loop-size.here c.in-Ok.size (sym c.reach_at.ensures ∙ ap reached_as c.in-Ok.is)

pub loop-size-smaller : goal.loop-size-smaller
loop-size-smaller c = turn_less _ _ _ _ _ _ _ _ _ c.loop-size.invariant c.in-Ok.size (sym c.reach_at.ensures ∙ ap reached_as c.in-Ok.is)

pub loop-size-preserved : goal.loop-size-preserved
loop-size-preserved c = turn_on _ _ _ _ _ _ _ _ _ c.loop-size.invariant c.in-Ok.size (sym c.reach_at.ensures ∙ ap reached_as c.in-Ok.is) c.decode.result _ c.market-market.ensures c.decode.ensures.reads _ (rw (← c.number_of.ensures) at c.pass-passed.ensures) c.if-most-count.false _ c.note.ensures

pub returns-then-most-count : goal.returns-then-most-count
returns-then-most-count c = turn_full _ _ _ _ _ _ _ _ _ c.loop-size.invariant c.in-Ok.size (sym c.reach_at.ensures ∙ ap reached_as c.in-Ok.is) c.if-most-count.true

pub returns-in-Err : goal.returns-in-Err
returns-in-Err c = rw (c.number-stop.ensures, c.from.ensures) (turn_stops _ _ _ _ _ _ _ _ _ c.loop-size.invariant _ (sym c.reach_at.ensures ∙ ap reached_as c.in-Err.is ∙ unreached c.in-Err.e))

-- As far as it went, laying goes on behind it as from the start (`SoFar`).
use Rattle.std.proofs.Common.{ℕ, ◌+◌, sym, refl, ap, arith, rules}
use native.Mathlib.Nat.{add-sub_cancel_left}
use Rattle.book.proofs.Walking.{move_within}
use Rattle.page.proofs.NotedTexts.{so_far_none, so_far_more, lays_behind}
use Rattle.page.proofs.texts.Setting.lay_noted.Goals as goal

pub loop-answer-init : goal.loop-answer-init
loop-answer-init c = (refl, refl, so_far_none _ _ _ _ _ _ _ _ _ c.requires)

pub overflow_add-end : goal.overflow_add-end
overflow_add-end c = omega (arith, move_within c.args.stream.now c.loop-answer.t.at c.in-Ok.size (sym c.in-Ok.ensures), c.well_formed)

pub slice_bounds-lay_passed-end : goal.slice_bounds-lay_passed-end
slice_bounds-lay_passed-end c = move_within _ _ _ (sym c.in-Ok.ensures)

pub loop-answer-preserved : goal.loop-answer-preserved
loop-answer-preserved c = let l = c.loop-answer.invariant in
    let noted = rw (add-sub_cancel_left _ _, ← l.1) at c.lay_passed.ensures in
    (search rules, ap (λ (k : ℕ). k + 1) l.1, so_far_more _ _ _ _ _ _ _ _ _ l.2 _ (sym c.in-Ok.ensures) _ refl (omega (arith, l.1, c.loop-answer-test.true)) (omega (arith, c.if-out-t-lt-ROOM.false, l.0)) _ _ (lays_behind noted))

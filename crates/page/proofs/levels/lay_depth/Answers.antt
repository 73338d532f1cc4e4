-- By the answer: the line of the refusal, or both sides, the second behind the first.
use Rattle.std.proofs.Common.{ℕ, ◌≤◌, true, false, List, length, sym, ◌∙◌, subst, arith, length-append}
use Rattle.page.specs.Levels.{rows_text, levels_room}
use Rattle.page.proofs.Cases.{appends_as, appends_then, appends_behind}
use Rattle.page.proofs.LevelTexts.{refusal_has_room, refused_text, both_sides_text}
use Rattle.page.proofs.levels.lay_depth.Goals as goal

pub returns-then-d-ne0 : goal.returns-then-d-ne0
returns-then-d-ne0 c = let a = c.args in
    let e = refused_text a.scale a.d c.if-d-ne0.true in
    record { appends = appends_as (c.bytes.ensures.whole ∙ c.refused_line-refused.ensures ∙ sym e) c.put.ensures; fits = subst (λ (x : List ℕ). length x ≤ levels_room) (sym e) (omega (arith, refusal_has_room a.d.answer)) }

pub returns : goal.returns
returns c = let a = c.args in
    let e = both_sides_text a.scale a.d c.if-d-ne0.false in
    let bids = rows_text true a.scale a.d.bids in
    let asks = rows_text false a.scale a.d.asks in
    record { appends = appends_as (sym e) (appends_then bids asks (omega arith) c.lay_rows-n.ensures.appends (appends_behind c.lay_rows.ensures.appends)); fits = subst (λ (x : List ℕ). length x ≤ levels_room) (sym e) (omega (arith, length-append bids asks, c.lay_rows-n.ensures.fits, c.lay_rows.ensures.fits)) }

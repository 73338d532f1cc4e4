-- The first rows are laid, as far as the loop has come, and each takes no more than a line's room.
use Rattle.std.proofs.Common.{◌≡◌, length, get_or, take, sym, refl, ap, ◌∙◌, arith, take_all, rules}
use Rattle.orders.specs.Rows.{levels, no_row}
use Rattle.page.specs.Levels.{row_text, rows_text}
use Rattle.page.proofs.Cases.{appends_as, appends_then, appends_behind}
use Rattle.page.proofs.NotedTexts.{lays_nothing}
use Rattle.page.proofs.LevelTexts.{rows_have_room, first_rows_have_room, one_row_more}
use Rattle.page.proofs.levels.lay_rows.Goals as goal

pub loop-row-init : goal.loop-row-init
unfolding rows_text
loop-row-init c = (refl, lays_nothing _ _)

pub put-n-requires : goal.put-n-requires
put-n-requires c = let l = c.loop-row in
    let a = c.args in
    omega (arith, l.invariant.0, l.invariant.1.count, first_rows_have_room a.buy a.scale a.rows l.row-index (search rules), c.loop-row-test.true, c.requires, c.bytes.ensures.fits)

pub loop-row-preserved : goal.loop-row-preserved
loop-row-preserved c = let l = c.loop-row in
    let a = c.args in
    let row = row_text a.buy a.scale (get_or a.rows l.row-index no_row) in
    (search rules, appends_as (sym (one_row_more a.buy a.scale a.rows l.row-index (search rules))) (appends_then (rows_text a.buy a.scale (take l.row-index a.rows)) row (omega (arith, c.requires)) l.invariant.1 (appends_as (c.bytes.ensures.whole ∙ c.row_line-line.ensures) (appends_behind c.put-n.ensures))))

pub returns : goal.returns
returns c = let l = c.loop-row in
    let a = c.args in
    let long : length a.rows ≡ levels = search rules in
    let all : take l.row-index a.rows ≡ a.rows = take_all l.row-index a.rows (omega (arith, long, c.loop-row-test.false)) in
    record { appends = appends_as (ap (rows_text a.buy a.scale) all) l.invariant.1; fits = omega (arith, rows_have_room a.buy a.scale a.rows (search rules), long) }

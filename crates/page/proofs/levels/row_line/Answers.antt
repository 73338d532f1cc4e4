-- The letters, the columns and the line feed are all held, since a row has room at any scale.
use Rattle.std.proofs.Common.{ℕ, [], ◌∷◌, subst, rules}
use Rattle.columns.specs.Columns.{next, bytes, rendered}
use Rattle.columns.specs.Held.{Adds}
use Rattle.page.specs.Levels.{row_text}
use Rattle.columns.proofs.Holding.{adds_then, holds_first, holds_then, held_all}
use Rattle.page.proofs.LevelTexts.{row_has_room}
use Rattle.page.proofs.levels.row_line.Goals as goal

pub returns : goal.returns
unfolding row_text rendered
returns c = let a = c.args in
    held_all (row_has_room a.buy a.scale a.row (search rules)) (holds_then (holds_first c.blank-l.ensures (adds_then c.push.ensures (adds_then (subst (λ (b : ℕ). Adds c.push.new.self (next (bytes (b ∷ []))) c.bytes_column.new.self) c.side_byte.ensures c.bytes_column.ensures) c.row_columns.ensures))) c.push-2.ensures)

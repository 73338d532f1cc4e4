-- The letter, the number and the line feed are all held, since a refusal has room.
use Rattle.columns.specs.Columns.{rendered}
use Rattle.columns.proofs.Holding.{adds_then, adds_last, holds_first, holds_then, held_all}
use Rattle.page.proofs.LevelTexts.{refusal_has_room}
use Rattle.page.proofs.levels.refused_line.Goals as goal

pub returns : goal.returns
unfolding rendered
returns c = held_all (refusal_has_room c.args.answer) (holds_then (holds_first c.blank-l.ensures (adds_then c.push.ensures (adds_last c.number_column.ensures))) c.push-2.ensures)

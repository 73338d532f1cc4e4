-- The end and the quote behind it are all held, since both have room.
use Rattle.std.proofs.Common.{rules}
use Rattle.columns.specs.Columns.{rendered}
use Rattle.page.specs.Printout.{end_text}
use Rattle.columns.proofs.Holding.{adds_then, adds_last, holds_first, holds_then, held_all}
use Rattle.page.proofs.Printouts.{end_has_room}
use Rattle.page.proofs.texts.end_lines.Goals as goal

pub returns : goal.returns
unfolding end_text rendered
returns c = let a = c.args in
    held_all (end_has_room a.stop a.scale a.x (search rules))
    (holds_then (holds_then (holds_first c.blank-l.ensures (adds_then c.push.ensures (adds_last c.number_column.ensures))) c.push-2.ensures) c.quote_line.ensures)

-- The columns and the line feed are all held, since a line has room (`line_has_room`).
use Rattle.std.proofs.Common.{rules}
use Rattle.columns.specs.Columns.{rendered}
use Rattle.columns.proofs.Holding.{holds_then, held_all}
use Rattle.page.proofs.Lengths.{line_has_room}
use Rattle.page.proofs.lines.Entry.line.Goals as goal

pub returns : goal.returns
unfolding rendered
returns c = let e = c.args.self in
    held_all (line_has_room e.listing e.decoded.message e.decoded.plain e.sequence e.second (search rules) (search rules))
    (holds_then c.columns-l.ensures c.push.ensures)

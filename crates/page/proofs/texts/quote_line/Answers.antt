-- By the answer: the number that refuses the quote, or the columns of both levels.
use Rattle.std.proofs.Common.{◌++◌}
use Rattle.columns.specs.Columns.{rendered, further}
use Rattle.columns.specs.Held.{Adds}
use Rattle.columns.proofs.Holding.{adds_then, adds_last}
use Rattle.page.specs.Printout.{level_columns}
use Rattle.page.proofs.Columns.{further_append}
use Rattle.page.proofs.Printouts.{quote_shown, quote_refused}
use Rattle.page.proofs.texts.quote_line.Goals as goal

pub returns-then-x-ne0 : goal.returns-then-x-ne0
unfolding rendered
returns-then-x-ne0 c = let a = c.args in
    rw (quote_refused a.scale a.x c.if-x-ne0.true)
    (adds_then (adds_then c.push.ensures (adds_last c.number_column.ensures)) c.push-then-x-ne0.ensures)

pub returns : goal.returns
unfolding rendered
returns c = let a = c.args in
    let both : Adds c.push.new.self (further (level_columns a.scale a.x.bid ++ level_columns a.scale a.x.ask)) c.level_columns-2.new.l =
    rw (← (further_append (level_columns a.scale a.x.bid) (level_columns a.scale a.x.ask))) (adds_then c.level_columns.ensures c.level_columns-2.ensures) in
    rw (quote_shown a.scale a.x c.if-x-ne0.false)
    (adds_then (adds_then c.push.ensures both) c.push-2.ensures)

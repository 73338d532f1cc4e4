-- The separator and the first bytes as they are shown, as far as the loop has come.
use borrow.Author.Rules.{rules}
use Rattle.columns.proofs.Holding.{adds_then, one_more_shown}
use Rattle.columns.proofs.Line.shown_column.Goals as goal

pub loop-b-preserved : goal.loop-b-preserved
loop-b-preserved g c =
    rw (one_more_shown g.rule c.args.s.now c.loop-b.b-index _ (search rules) (c.requires.1.1 _ _ c.shown.ensures)) (adds_then c.loop-b.invariant c.push.ensures)

-- The separator, the three pairs of digits with their marks, and nine digits, one after the other, are the time.
use Rattle.columns.specs.Text.{timed}
use Rattle.columns.proofs.Holding.{adds_then}
use Rattle.columns.proofs.Line.clock_column.Goals as goal

pub returns : goal.returns
unfolding timed
returns c = adds_then c.put_separator.ensures
    (adds_then c.put_fixed.ensures
    (adds_then c.push.ensures
    (adds_then c.put_fixed-2.ensures
    (adds_then c.push-2.ensures
    (adds_then c.put_fixed-3.ensures
    (adds_then c.push-3.ensures c.put_fixed-4.ensures))))))

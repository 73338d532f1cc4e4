-- The separator and the digits, one after the other.
use Rattle.columns.proofs.Holding.{adds_then}
use Rattle.columns.proofs.Line.number_column.Goals as goal

pub returns : goal.returns
returns c = adds_then c.put_separator.ensures c.put_number.ensures

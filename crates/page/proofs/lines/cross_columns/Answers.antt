-- Each call adds one column, so together they add the columns of a cross.
use Rattle.columns.proofs.Holding.{adds_then, adds_last}
use Rattle.page.proofs.lines.cross_columns.Goals as goal

pub returns : goal.returns
returns c = adds_then c.number_column.ensures
    (adds_then c.price_column.ensures
    (adds_then c.number_column-2.ensures (adds_last c.text_column.ensures)))

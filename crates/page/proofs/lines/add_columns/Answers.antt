-- Each call adds one column, so together they add the columns of an add.
use Rattle.columns.proofs.Holding.{adds_then, adds_last}
use Rattle.page.proofs.lines.add_columns.Goals as goal

pub returns : goal.returns
returns c = adds_then c.number_column.ensures
    (adds_then c.price_column.ensures
    (adds_then c.number_column-2.ensures
    (adds_then c.bytes_column.ensures
    (adds_then c.text_column.ensures (adds_last c.number_column-3.ensures)))))

-- By the mark: three empty columns, or a price and two numbers.
use borrow.Author.Tests.{not-true, not-false}
use Rattle.columns.proofs.Holding.{adds_then, adds_last}
use Rattle.page.proofs.levels.row_columns.Goals as goal

pub returns-then-not-row : goal.returns-then-not-row
returns-then-not-row c = let a = c.args in
    rw (not-true a.row.used c.if-not-row.true) (adds_then c.put_separator.ensures (adds_then c.put_separator-then-not-row.ensures c.put_separator-then-not-row-2.ensures))

pub returns : goal.returns
returns c = let a = c.args in
    rw (not-false a.row.used c.if-not-row.false) (adds_then c.price_column.ensures (adds_then c.number_column.ensures (adds_last c.number_column-2.ensures)))

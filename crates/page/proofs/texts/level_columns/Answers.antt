-- By the level: two empty columns, or a price and a number.
use Rattle.columns.proofs.Holding.{adds_then, adds_last}
use Rattle.page.proofs.texts.level_columns.Goals as goal

pub returns-in-None : goal.returns-in-None
returns-in-None c = rw c.in-None.is (adds_then c.put_separator.ensures c.put_separator-in-None.ensures)

pub returns-in-Some : goal.returns-in-Some
returns-in-Some c = rw c.in-Some.is (adds_then c.price_column.ensures (adds_last c.number_column.ensures))

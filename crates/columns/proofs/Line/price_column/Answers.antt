-- By whether the scale is 0: without a point the digits are the price, else the point and the decimals follow.
use Rattle.columns.proofs.Holding.{adds_then}
use Rattle.columns.proofs.Digits.{priced_no_point, priced_point}
use Rattle.columns.proofs.Line.price_column.Goals as goal

pub returns-then-scale-ne0 : goal.returns-then-scale-ne0
returns-then-scale-ne0 c = rw (priced_point _ _ _ c.if-scale-ne0.true c.units.ensures)
    (adds_then c.put_separator.ensures
    (adds_then c.put_number.ensures
    (adds_then c.push.ensures c.put_fixed.ensures)))

pub returns-else-scale-ne0 : goal.returns-else-scale-ne0
returns-else-scale-ne0 c = rw (priced_no_point _ _ _ c.if-scale-ne0.false c.units.ensures)
    (adds_then c.put_separator.ensures c.put_number.ensures)

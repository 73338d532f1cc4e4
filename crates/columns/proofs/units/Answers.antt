-- A power of ten is not 0, and one that 64 bits cannot hold leaves nothing.
use native.Mathlib.Omega.{arith}
use Rattle.columns.proofs.Digits.{some_ten, units_none}
use Rattle.columns.proofs.units.Goals as goal

pub nonzero_div-result : goal.nonzero_div-result
nonzero_div-result c = omega (arith, c.in-Some.ensures.1, some_ten c.args.s)

pub returns-in-None : goal.returns-in-None
returns-in-None c = units_none _ _ c.ranges.n.fits (omega (arith, c.in-None.ensures))

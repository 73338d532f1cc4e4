-- A number from 10 ^ k on and below ten times that has one digit more than k, and 0 has one.
use native.Mathlib.Omega.{arith}
use Rattle.columns.proofs.Digits.{width_by, width_one}
use Rattle.columns.proofs.width.Goals as goal

pub returns-in-Some : goal.returns-in-Some
returns-in-Some c = width_by _ _ c.in-Some.ensures.power_le c.in-Some.ensures.next_power_gt c.ranges.n.fits

pub returns-in-None : goal.returns-in-None
returns-in-None c = width_one _ (omega (arith, c.in-None.ensures.none))

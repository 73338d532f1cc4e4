-- Where nothing is to change, all fits.
use Rattle.orders.proofs.Judging.{nothing_fits}
use Rattle.orders.proofs.Orders.judged.Goals as goal

pub returns-in-Nothing : goal.returns-in-Nothing
returns-in-Nothing c w = rw c.in-Nothing.is (nothing_fits _ _)

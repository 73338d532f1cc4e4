-- Every place is the one empty place repeated.
use Rattle.orders.proofs.Orders.new.Goals as goal

pub returns : goal.returns
returns c = rw c.no_order.ensures

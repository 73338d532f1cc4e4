-- So far it is the sum of the orders passed, and each adds at most a volume.
use mathlib.Core.Path.{refl}
use native.Mathlib.Omega.{arith}
use Rattle.places.specs.Places.{sum_by}
use Rattle.orders.specs.State.{no_order}
use Rattle.orders.specs.Levels.{shares_at}
use Rattle.orders.proofs.Passing.{sum_more}
use Rattle.orders.proofs.levels.shares_at.Goals as goal

pub loop-o-init : goal.loop-o-init
unfolding sum_by
loop-o-init c = record { is_sum = refl; has_room = omega arith }

pub loop-o-preserved : goal.loop-o-preserved
loop-o-preserved c = record { is_sum = omega (arith, c.shares.ensures, sum_more (shares_at c.args.buy c.args.price) c.args.shelf.now c.loop-o.o-index no_order (omega arith)); has_room = omega arith }

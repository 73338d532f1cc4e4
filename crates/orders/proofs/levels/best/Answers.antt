-- So far it is the best of the orders passed.
use mathlib.Core.Path.{refl, ap, ◌∙◌}
use native.Mathlib.Omega.{arith}
use Rattle.places.specs.Places.{fold}
use Rattle.orders.specs.State.{no_order}
use Rattle.orders.specs.Levels.{best_step}
use Rattle.orders.proofs.Passing.{best_more}
use Rattle.orders.proofs.levels.best.Goals as goal

pub loop-o-init : goal.loop-o-init
unfolding fold
loop-o-init c = refl

pub loop-o-preserved : goal.loop-o-preserved
loop-o-preserved c = c.better-best.ensures ∙ ap (best_step c.args.buy _) c.loop-o.invariant ∙ best_more c.args.buy c.args.shelf.now c.loop-o.o-index no_order (omega arith)

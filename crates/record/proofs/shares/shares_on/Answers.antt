-- The sum so far is that of the places passed, and each adds at most a volume.
use mathlib.Core.Bool.{cond}
use mathlib.Core.Path.{refl}
use native.Mathlib.Omega.{arith}
use native.Mathlib.Numerals.{add-one}
use Rattle.places.specs.Places.{sum_by}
use Rattle.record.proofs.Sums.{sum_more}
use Rattle.record.proofs.shares.shares_on.Goals as goal

pub loop-x-init : goal.loop-x-init
unfolding sum_by
loop-x-init g c = (omega arith, refl, omega arith)

pub loop-x-preserved : goal.loop-x-preserved
loop-x-preserved g c = let l = c.loop-x in
    let t = g.T.Kept in
    let more = sum_more (λ x. cond (t.live x) (t.volume x) 0) c.args.places.now l.x-index c.x-item.result c.loop-x-test.true in
    let v = rw c.x-item.is at c.kept_volume.ensures in
    (omega arith, rw add-one (omega (arith, l.invariant.1, c.from-sum.ensures, v, more)), omega arith)

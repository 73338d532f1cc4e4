-- The sum so far is that of the places passed, and each adds at most a volume.
use mathlib.Core.Bool.{cond}
use mathlib.Core.Path.{◌≡◌}
use Prim.Native.Nat.{◌≤◌, ◌*◌}
use lib.ListN.{length, take}
use Rattle.places.specs.Places.{sum_by}
use Rattle.places.proofs.Sums.{most_volume}
use Rattle.record.proofs.shares.shares_on.Given as goal

abbrev pub invariant-loop-x : goal.invariant-loop-x
invariant-loop-x g l = let t = g.T.Kept in
    (l.x-index ≤ length l.places) × (l.sum ≡ sum_by (λ x. cond (t.live x) (t.volume x) 0) (take l.x-index l.places)) × (l.sum ≤ l.x-index * most_volume)

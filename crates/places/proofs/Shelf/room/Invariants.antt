-- The places passed are live, so an empty one is room and the way round says that there is none.
use mathlib.Core.Bool.{not, false}
use Prim.Native.Nat.{◌+◌, ◌-◌, ◌<◌, ◌≤◌}
use lib.ListN.{length, get_or}
use Rattle.places.specs.Homes.{most_places}
use Rattle.places.proofs.Rounds.{Leaves}
use Rattle.places.proofs.Shelf.room.Given as goal

abbrev pub invariant-loop-j : goal.invariant-loop-j
invariant-loop-j l = (l.j ≤ l.n) × ((l.home < l.n) × (l.n ≤ most_places)) × (l.self.from + l.n ≤ length l.lives) × Leaves l.n l.home l.n (λ i. not (get_or l.lives (l.self.from + i) false)) l.j

abbrev pub decreases-loop-j : goal.decreases-loop-j
decreases-loop-j l = l.n - l.j

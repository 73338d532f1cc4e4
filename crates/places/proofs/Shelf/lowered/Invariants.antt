-- Beyond the places still to pass nothing of the home lives, so the first hit from above is the last of the home.
use Prim.Native.Nat.{◌+◌, ◌<◌, ◌≤◌, min}
use lib.ListN.{length}
use Rattle.places.specs.Homes.{most_places, homed}
use Rattle.places.proofs.Rounds.{Remains}
use Rattle.places.proofs.Shelf.lowered.Given as goal

abbrev pub invariant-loop-j : goal.invariant-loop-j
invariant-loop-j l = (l.j ≤ l.n) × ((l.home < l.n) × (l.n ≤ most_places)) × ((l.self.from + l.n ≤ length l.numbers) × (l.self.from + l.n ≤ length l.lives)) × Remains l.n l.home (min l.span l.self.each) (λ i. homed l.self.each l.numbers l.lives l.home (l.self.from + i)) l.j

abbrev pub decreases-loop-j : goal.decreases-loop-j
decreases-loop-j l = l.j

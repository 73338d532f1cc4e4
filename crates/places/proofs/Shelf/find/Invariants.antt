-- What the places passed leave to the search is what it looks for, so a hit is its place and the end of the span says that it is nowhere.
use Prim.Native.Nat.{◌+◌, ◌-◌, ◌<◌, ◌≤◌}
use lib.ListN.{length}
use Rattle.places.specs.Homes.{most_places, holds}
use Rattle.places.proofs.Rounds.{Leaves}
use Rattle.places.proofs.Shelf.find.Given as goal

abbrev pub invariant-loop-j : goal.invariant-loop-j
invariant-loop-j l = ((l.j ≤ l.span) × (l.span ≤ l.n)) × ((l.home < l.n) × (l.n ≤ most_places)) × ((l.self.from + l.n ≤ length l.numbers) × (l.self.from + l.n ≤ length l.lives)) × Leaves l.n l.home l.span (λ i. holds l.numbers l.lives l.number (l.self.from + i)) l.j

abbrev pub decreases-loop-j : goal.decreases-loop-j
decreases-loop-j l = l.span - l.j

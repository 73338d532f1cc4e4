-- No place before a turn has the number.
use Prim.Native.Nat.{ℕ, ◌+◌, ◌<◌, ◌≤◌}
use mathlib.Core.Bool.{false}
use mathlib.Core.Path.{◌≡◌}
use lib.Dec.{eqb}
use lib.ListN.{get_or, length}
use Rattle.places.proofs.Shelf.first.Given as goal

abbrev pub invariant-loop-j : goal.invariant-loop-j
invariant-loop-j l = (l.self.from + l.n ≤ length l.numbers) × ((i : ℕ) → i < l.j → eqb (get_or l.numbers (l.self.from + i) 0) l.number ≡ false)

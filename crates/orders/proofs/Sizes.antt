-- Where the homes lie.
use mathlib.Core.Path.{◌≡◌}
use Prim.Native.Nat.{ℕ, ◌<◌}
use native.Mathlib.Omega.{arith}
use Rattle.places.specs.Homes.{home_of}
use Rattle.places.proofs.Rounds.{home_within}
use Rattle.orders.specs.State.{orders_each}

-- a home lies within a shelf
pub home_in : (h number : ℕ) → h ≡ home_of orders_each number → h < orders_each
home_in h number e = rw e (home_within orders_each number (omega arith))

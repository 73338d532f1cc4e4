-- The promise of `carry` leaves one outcome: it is an equation of the count and all of the buffer.
use mathlib.Core.List.{List}
use mathlib.Core.Path.{◌≡◌, ap}
use Prim.Native.Nat.{ℕ}
use Rattle.parts.specs.Carry.{Carry, carried}

-- two results on the same input are equal, buffers included
pub one_carry : (n m : ℕ) (s t : List ℕ) → carried n s ≡ carried m t → (n ≡ m) × (s ≡ t)
one_carry n m s t e = (ap (λ (c : Carry). c.count) e, ap (λ (c : Carry). c.buffer) e)

-- Each case is one of the definition's, and eight shelves of a 16-bit width are within reach.
use mathlib.Core.Path.{sym}
use Prim.Native.Nat.{ℕ, ◌*◌, ◌<◌, ◌≤◌}
use native.Mathlib.Nat.{mul-le-mul_right, add-zero}
use native.Mathlib.Omega.{arith}
use borrow.Author.Tests.{lt-ltb, le-ltb}
use Rattle.places.specs.Places.{symbols, spot_in}
use Rattle.places.proofs.homes.spot.Goals as goal

reach : (k n : ℕ) → k < symbols → k * n ≤ 7 * n
reach k n h = mul-le-mul_right n (omega (arith, h))

pub returns-then-k-ge-SYMBOLS : goal.returns-then-k-ge-SYMBOLS
unfolding spot_in
returns-then-k-ge-SYMBOLS c = rw (le-ltb _ _ c.if-k-ge-SYMBOLS.true)

pub returns-then-i-n : goal.returns-then-i-n
unfolding spot_in
returns-then-i-n c = rw (sym c.from-n.ensures, lt-ltb _ _ c.if-k-ge-SYMBOLS.false, lt-ltb _ _ c.if-i-n.true)

pub returns-else-i-n : goal.returns-else-i-n
unfolding spot_in
returns-else-i-n c = rw (sym c.from-n.ensures, lt-ltb _ _ c.if-k-ge-SYMBOLS.false, le-ltb _ _ c.if-i-n.false, add-zero)

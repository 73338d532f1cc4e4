-- `carry` moves a range of the buffer to its front, so what was left there opens the next part.
use mathlib.Core.List.{List}
use mathlib.Core.Path.{◌≡◌, sym, ap, ◌∙◌}
use Prim.Native.Nat.{ℕ, ◌-◌, ◌≤◌}
use native.Mathlib.Omega.{arith}
use lib.ListN.{length, take, drop}
use lib.Seq.{slice, length-slice, take_at}
use Rattle.parts.specs.Carry.{Carry, carried, carry_of}
use Rattle.parts.proofs.Carrying.{carry_within}

-- so many bytes at the front of a buffer are these
pub record Front (bytes : List ℕ) (n : ℕ) (buffer : List ℕ) : Type 0 where
  pub long : length bytes ≡ n
  pub shows : take n buffer ≡ bytes
  pub within : n ≤ length buffer

pub carried_front : (before : List ℕ) (from to n : ℕ) (after : List ℕ) → from ≤ to → to ≤ length before → length after ≡ length before → carried n after ≡ carry_of before from to → Front (slice from to before) n after
carried_front before from to n after h k same e =
    let c = e ∙ carry_within before from to h k in
    let count : n ≡ to - from = ap (λ (x : Carry). x.count) c in
    let long : length (slice from to before) ≡ to - from = length-slice from to before k in
    record {
      long = long ∙ sym count;
      shows = ap (λ (x : Carry). take x.count x.buffer) c ∙ take_at (slice from to before) (drop (to - from) before) (to - from) long;
      within = omega (arith, count, k, same);
    }

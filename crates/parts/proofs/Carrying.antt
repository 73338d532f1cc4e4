-- By the cases of the definition; within the buffer, what `copy_within` leaves is the range and then the bytes behind it.
use mathlib.Core.Path.{◌≡◌, sym}
use mathlib.Core.List.{List, ◌++◌}
use Prim.Native.Nat.{ℕ, ◌+◌, ◌-◌, ◌<◌, ◌≤◌}
use native.Mathlib.Omega.{arith}
use native.Mathlib.Nat.{zero-add}
use lib.ListN.{length, drop}
use lib.Seq.{slice}
use borrow.Author.Tests.{lt-ltb, le-ltb}
use Rattle.std.specs.List.{copy_within}
use Rattle.std.proofs.lemmas.List.{drop-take}
use Rattle.parts.specs.Carry.{carried, carry_by, carry_of}

module _ (s : List ℕ) (from to : ℕ) where
  -- ---- the cases of the definition
  pub carry_turned : to < from → carry_of s from to ≡ carried 0 s
  unfolding carry_of carry_by
  carry_turned h = rw (lt-ltb _ _ h)

  pub carry_beyond : from ≤ to → length s < to → carry_of s from to ≡ carried 0 s
  unfolding carry_of carry_by
  carry_beyond h k = rw (le-ltb _ _ h, lt-ltb _ _ k)

  pub carry_within : from ≤ to → to ≤ length s → carry_of s from to ≡ carried (to - from) (slice from to s ++ drop (to - from) s)
  unfolding carry_of carry_by
  carry_within h k = rw (le-ltb _ _ h, le-ltb _ _ k)

  -- ---- what the copy leaves
  pub carry_copies : from ≤ to → to ≤ length s → carried (to - from) (copy_within s from to 0) ≡ carry_of s from to
  carry_copies h k =
      let whole : from + (to - from) ≡ to = omega arith in
      rw (← drop-take from (to - from) s, whole, zero-add (to - from)) (sym (carry_within h k))

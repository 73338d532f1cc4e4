-- Msg Size stands in the first two bytes of a message, so more bytes behind it change neither a message that is all there nor a Msg Size below 4.
use mathlib.Core.Bool.{Bool, true, false}
use mathlib.Core.List.{List, ◌++◌}
use mathlib.Core.Logic.{◌⊎◌, inl, inr, ⊎_elim}
use mathlib.Core.Path.{◌≡◌, refl, sym, ap}
use Prim.Native.Nat.{ℕ, ◌<◌, ◌≤◌}
use native.Mathlib.Omega.{arith}
use lib.Dec.{ltb}
use lib.ListN.{length, length-append}
use lib.Seq.{take-append-le}
use borrow.Author.Tests.{ltb-true, ltb-false}
use Rattle.wire.specs.Bytes.{value}
use Rattle.wire.specs.Outcome.{refused}
use Rattle.wire.specs.Reading.{least_size, msg_size, reach_by, reach_of}
use Rattle.wire.proofs.Cases.{done_is_not_refused, reach_small}

-- ---- why a message is not reached: too few bytes, or a Msg Size below 4
pub record Small (s : List ℕ) (a : ℕ) : Type 0 where
  pub two : a ≡ 2
  pub there : least_size ≤ length s
  pub below : msg_size s < least_size

unreached_by : (s : List ℕ) (a : ℕ) (short below beyond : Bool) → ltb (length s) least_size ≡ short → ltb (msg_size s) least_size ≡ below →
    reach_by short below beyond (msg_size s) ≡ refused a → (a ≡ 1) ⊎ Small s a
unfolding reach_by
unreached_by s a true below beyond p q e = inl (cc)
unreached_by s a false true beyond p q e = inr (record { two = cc; there = omega (arith, ltb-false (length s) least_size p); below = ltb-true (msg_size s) least_size q })
unreached_by s a false false true p q e = inl (cc)
unreached_by s a false false false p q e = absurd (done_is_not_refused (sym e))

pub unreached : (s : List ℕ) (a : ℕ) → reach_of s ≡ refused a → (a ≡ 1) ⊎ Small s a
unfolding reach_of
unreached s a e = unreached_by s a (ltb (length s) least_size) (ltb (msg_size s) least_size) (ltb (length s) (msg_size s)) refl refl e

-- ---- with more bytes behind
module _ (s t : List ℕ) where
  still_small : Small s 2 → reach_of (s ++ t) ≡ refused 2
  still_small m =
      let size : msg_size (s ++ t) ≡ msg_size s = ap value (take-append-le 2 s t (omega (arith, m.there))) in
      reach_small (s ++ t) (omega (arith, m.there, length-append s t)) (omega (arith, m.below))

  -- a Msg Size below 4 stays so
  pub small_more : reach_of s ≡ refused 2 → reach_of (s ++ t) ≡ refused 2
  small_more e = ⊎_elim (λ (p : ◌≡◌ {A = ℕ} 2 1). absurd (omega arith)) still_small (unreached s 2 e)

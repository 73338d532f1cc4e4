-- A name is bad by its length, or by its first bad byte.
use borrow.Author.Tests.{lt-ltb, le-ltb}
use lib.Dec.{eqb, ltb}
use lib.ListN.{length, get_or}
use mathlib.Core.Bool.{Bool, true, false, cond}
use mathlib.Core.List.{List, [], ◌∷◌}
use mathlib.Core.Logic.{◌⊎◌, inl, inr}
use mathlib.Core.Path.{◌≡◌, sym, ◌∙◌}
use native.Mathlib.Nat.{le_of_suc-le-suc, not-suc-le-zero}
use native.Mathlib.Omega.{arith}
use Prim.Native.Nat.{ℕ, zero, suc, ◌<◌, ◌≤◌}
use Rattle.std.specs.Bool.{MatchBool}
use Rattle.std.specs.List.{AllWithin, HoldsAt}
use Rattle.places.specs.Places.{first_where}
use Rattle.symbols.specs.State.{name_bytes}
use Rattle.symbols.specs.Registering.{byte_bad, name_bad}

-- ---- the first bad byte stands no later than any bad one, and past the end where there is none
first_before : (l : List ℕ) (k : ℕ) → k < length l → byte_bad (get_or l k 0) ≡ true → first_where byte_bad l ≤ k
unfolding first_where
first_before [] k h e = absurd (not-suc-le-zero h)
first_before (c ∷ l) zero h e = rw e (omega arith)
first_before (c ∷ l) (suc k) h e = go (byte_bad c) (first_before l k (le_of_suc-le-suc h) e)
  where
    go : (t : Bool) → first_where byte_bad l ≤ k → cond t 0 (suc (first_where byte_bad l)) ≤ suc k
    go true y = omega arith
    go false y = omega (arith, y)

first_past : (l : List ℕ) → ((k : ℕ) → k < length l → byte_bad (get_or l k 0) ≡ false) → length l ≤ first_where byte_bad l
unfolding first_where
first_past [] p = omega arith
first_past (c ∷ l) p =
    let y = first_past l (λ k h. p (suc k) (omega (arith, h))) in
    let e : byte_bad c ≡ false = p 0 (omega arith) in
    rw e (omega (arith, y))

-- what a search for a bad byte answers
abbrev pub Found : List ℕ → Bool → Type 0
Found l r = MatchBool r ((k : ℕ) × (k < length l) × HoldsAt (λ c. byte_bad c ≡ true) l k) (AllWithin (λ c. byte_bad c ≡ false) l 0 (length l))

bad_byte : (l : List ℕ) (r : Bool) → Found l r → r ≡ ltb (first_where byte_bad l) (length l)
bad_byte l true (k, h, e) = let y = first_before l k h (e 0) in sym (lt-ltb _ _ (omega (arith, y, h)))
bad_byte l false f = sym (le-ltb _ _ (first_past l (λ k h. f k 0 (omega arith) h)))

-- ---- by the tests of its length, and of its bytes
pub bad_by_length : (name : List ℕ) (t : Bool) → t ≡ eqb (length name) 0 → (t ≡ true) ⊎ ((t ≡ false) × (name_bytes < length name)) → true ≡ name_bad name
unfolding name_bad
bad_by_length name t e (inl u) = rw (sym e ∙ u)
bad_by_length name t e (inr u) = rw (sym e ∙ u.0, lt-ltb _ _ u.1)

pub bad_by_bytes : (name : List ℕ) (t : Bool) → t ≡ eqb (length name) 0 → t ≡ false → length name ≤ name_bytes → (r : Bool) → Found name r → r ≡ name_bad name
unfolding name_bad
bad_by_bytes name t e u h r f = rw (sym e ∙ u, le-ltb _ _ h) (bad_byte name r f)

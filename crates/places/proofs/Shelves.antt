-- A shelf holds what the list holds from the shelf's start on, so a store inside it is a store in the shelf, and one outside is none.
use mathlib.Core.Bool.{Bool, true, false}
use mathlib.Core.List.{List, [], ◌∷◌, ◌++◌, append-nil}
use mathlib.Core.Path.{◌≡◌, refl, sym, ap, ◌∙◌, subst}
use Prim.Native.Nat.{ℕ, zero, suc, ◌+◌, ◌*◌, ◌-◌, ◌<◌, ◌≤◌}
use native.Mathlib.Nat.{mul-le-mul_right, zero-add, sub-zero, zero-sub, suc-sub-suc}
use native.Mathlib.Numerals.{add-one}
use native.Mathlib.Omega.{arith}
use borrow.Author.Tests.{leb-true, leb-false}
use lib.Dec.{leb}
use lib.ListN.{length, get_or, set, take, drop, length-take, length-drop, drop_of_length-le, replicate}
use lib.Seq.{take-nil, take_all, paste, paste-suc, drop-set-add, drop-set-lt, take-set-lt, take-set-le, get_or-take, get_or-drop, length-take-le}
use Rattle.places.specs.Places.{shelf}

-- ---- shelves
module _ {A : Type 0} where
  pub shelf_length : (n k : ℕ) (l : List A) → k * n + n ≤ length l → length (shelf n k l) ≡ n
  shelf_length n k l h = length-take-le n (drop (k * n) l) (simp length-drop (omega arith))

  pub shelf_fits : (n k : ℕ) (l : List A) → length (shelf n k l) ≤ n
  shelf_fits n k l = omega (arith, length-take n (drop (k * n) l))

  -- past the last shelf there is nothing
  pub shelf_past : (n k m : ℕ) (l : List A) → length l ≡ m * n → m ≤ k → shelf n k l ≡ []
  shelf_past n k m l e h = ap (take n) (drop_of_length-le l {i = k * n} (omega (arith, e, mul-le-mul_right n h))) ∙ take-nil n

  pub shelf_get : (n k : ℕ) (l : List A) (j : ℕ) (d : A) → j < n → get_or (shelf n k l) j d ≡ get_or l (k * n + j) d
  shelf_get n k l j d h = rw (get_or-take, get_or-drop)

  pub shelf_set : (n k : ℕ) (l : List A) (j : ℕ) (a : A) → j < n → shelf n k (set l (k * n + j) a) ≡ set (shelf n k l) j a
  shelf_set n k l j a h = rw (drop-set-add, take-set-lt)

  pub shelf_other : (n k : ℕ) (l : List A) (j : ℕ) (a : A) (m : ℕ) → j < n → (m ≡ k → ⊥) → shelf n m (set l (k * n + j) a) ≡ shelf n m l
  shelf_other n k l j a m h e = go (leb (suc m) k) refl
    where
      go : (b : Bool) → leb (suc m) k ≡ b → shelf n m (set l (k * n + j) a) ≡ shelf n m l
      go true q =
          let lt : suc m ≤ k = leb-true (suc m) k q in
          let le : suc m * n ≤ k * n = mul-le-mul_right n lt in
          let z : m * n + (k * n + j - m * n) ≡ k * n + j = omega arith in
          let y : n ≤ k * n + j - m * n = omega arith in
          subst (λ (x : ℕ). take n (drop (m * n) (set l x a)) ≡ shelf n m l) z
          (rw (drop-set-add, take-set-le))
      go false q =
          let ge : k < suc m = leb-false (suc m) k q in
          let lt : suc k ≤ m = omega arith in
          let le : suc k * n ≤ m * n = mul-le-mul_right n lt in
          let y : k * n + j < m * n = omega arith in
          rw (drop-set-lt)

-- ---- a copy from the start on, element by element
pub paste_next : {A : Type 0} (to from : List A) (j : ℕ) (d : A) → j < length to → j < length from → set (paste to 0 from j) j (get_or from j d) ≡ paste to 0 from (j + 1)
paste_next to from j d h g =
    rw (add-one j)
    (subst (λ (i : ℕ). set (paste to 0 from j) i (get_or from j d) ≡ paste to 0 from (suc j)) (zero-add j) (paste-suc to 0 from j d (omega (arith, h)) g))

-- so a loop that copies shelf k out has its first j places, over what stood there
module _ {A : Type 0} (n k : ℕ) (l : List A) (room : k * n + n ≤ length l) (at_first : List A) (long : length at_first ≡ n) where
  pub copied_next : (j : ℕ) (d : A) (part : List A) → j < n → part ≡ paste at_first 0 (shelf n k l) j → set part j (get_or l (k * n + j) d) ≡ paste at_first 0 (shelf n k l) (j + 1)
  copied_next j d part h e = rw (e, ← shelf_get n k l j d h) (paste_next at_first (shelf n k l) j d (rw long h) (rw (shelf_length n k l room) h))

  pub copied_all : (part : List A) → part ≡ paste at_first 0 (shelf n k l) n → part ≡ shelf n k l
  copied_all part e =
      let none_left : drop (0 + n) at_first ≡ [] = drop_of_length-le at_first {i = 0 + n} (omega (arith, long)) in
      e ∙ ap (λ (r : List A). take n (shelf n k l) ++ r) none_left ∙ append-nil _ ∙ take_all n (shelf n k l) (omega (arith, shelf_length n k l room))

-- ---- shelves of a list that holds one element over and over
module _ {A : Type 0} (z : A) where
  pub drop_replicated : (i n : ℕ) → drop i (replicate n z) ≡ replicate (n - i) z
  drop_replicated zero n = sym (ap {B = List A} (λ (k : ℕ). replicate k z) (sub-zero n))
  drop_replicated (suc i) zero = sym (ap {B = List A} (λ (k : ℕ). replicate k z) (zero-sub (suc i)))
  drop_replicated (suc i) (suc n) = drop_replicated i n ∙ sym (ap {B = List A} (λ (k : ℕ). replicate k z) (suc-sub-suc n i))

  pub get_or_replicated : (n i : ℕ) → get_or (replicate n z) i z ≡ z
  get_or_replicated zero i = refl
  get_or_replicated (suc n) zero = refl
  get_or_replicated (suc n) (suc i) = get_or_replicated n i

  get_or_taken : (n : ℕ) (l : List A) → ((i : ℕ) → get_or l i z ≡ z) → (i : ℕ) → get_or (take n l) i z ≡ z
  get_or_taken zero l p i = refl
  get_or_taken (suc n) [] p i = refl
  get_or_taken (suc n) (x ∷ l) p zero = p zero
  get_or_taken (suc n) (x ∷ l) p (suc i) = get_or_taken n l (λ j. p (suc j)) i

  pub shelf_replicated : (n k m i : ℕ) → get_or (shelf n k (replicate m z)) i z ≡ z
  shelf_replicated n k m i = get_or_taken n (drop (k * n) (replicate m z)) (λ j. get_or-drop (k * n) (replicate m z) j z ∙ get_or_replicated m (k * n + j)) i

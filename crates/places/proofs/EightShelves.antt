-- Eight shelves in one list: a store on shelf k is seen on shelf k alone, and what is live on a shelf lies in its places, a number at most once.
use mathlib.Core.Bool.{Bool, true, false}
use mathlib.Core.List.{List, []}
use mathlib.Core.Path.{◌≡◌, refl, ap, ◌∙◌}
use Prim.Native.Nat.{ℕ, ◌+◌, ◌*◌, ◌<◌, ◌≤◌}
use native.Mathlib.Omega.{arith}
use native.Mathlib.Nat.{mul-le-mul_right}
use borrow.Author.Tests.{eqb-true, eqb-false, ltb-true, ltb-false}
use lib.Dec.{eqb, ltb}
use lib.ListN.{length, get_or, replicate}
use Rattle.places.specs.Places.{symbols, shelf, count, has, in_order, Single, Shelf, placed_in, Lands, EmptiedTo, on_shelf, Singles}
use Rattle.places.proofs.Shelves.{shelf_length, shelf_past, shelf_replicated}
use Rattle.places.proofs.Living.{count_in_order, in_order_fits}
use Rattle.places.proofs.Emptied.{nothing_live, nothing_counted}
use Rattle.places.proofs.Landing.{shelf_placed, shelf_placed_other}

-- a place is a symbol's, or past the last one
pub by_place : {P : Type 0} (k : ℕ) → (k < symbols → P) → (symbols ≤ k → P) → P
by_place {P} k inside past = go (ltb k symbols) refl
  where
    go : (t : Bool) → ltb k symbols ≡ t → P
    go true e = inside (ltb-true k symbols e)
    go false e = past (ltb-false k symbols e)

-- what is alike at place k and at every other is alike everywhere
pub alike_everywhere : {B : Type 0} (f g : ℕ → B) (k : ℕ) → f k ≡ g k → ((m : ℕ) → (m ≡ k → ⊥) → f m ≡ g m) → (m : ℕ) → f m ≡ g m
alike_everywhere f g k own others m = go (eqb m k) refl
  where
    go : (t : Bool) → eqb m k ≡ t → f m ≡ g m
    go true e = rw (eqb-true m k e) own
    go false e = others m (eqb-false m k e)

-- each symbol's shelf lies within the list
pub shelf_reach : {A : Type 0} (n k : ℕ) (l : List A) → length l ≡ symbols * n → k < symbols → k * n + n ≤ length l
shelf_reach n k l e h = omega (arith, e, mul-le-mul_right n h)

module _ {A : Type 0} (key : A → ℕ) (live : A → Bool) (n : ℕ) where
  -- ---- what lies on a shelf
  module _ (l : List A) (k : ℕ) where
    pub within_places : length (on_shelf key live n l k) ≤ n
    within_places = in_order_fits key live n k l

    module _ (w : Singles key live n l) (h : k < symbols) where
      pub one_of_number : (number : ℕ) → count (λ a. eqb (key a) number) (on_shelf key live n l k) ≤ 1
      one_of_number number = rw (count_in_order key live number (shelf n k l)) (w.single k h number)

      pub whole_shelf : length l ≡ symbols * n → Shelf key live n (shelf n k l)
      whole_shelf e = record { long = shelf_length n k l (shelf_reach n k l e h); single = w.single k h }

  none_in_order : in_order key live [] ≡ []
  unfolding in_order
  none_in_order = refl

  -- past the last symbol there is no shelf
  pub nothing_past : (l : List A) (k : ℕ) → length l ≡ symbols * n → symbols ≤ k → on_shelf key live n l k ≡ []
  nothing_past l k e h = ap (in_order key live) (shelf_past n k symbols l e h) ∙ none_in_order

  -- two lists whose shelves are the same but for shelf k
  single_but_one : (l m : List A) (k : ℕ) → Single key live (shelf n k m) → ((j : ℕ) → (j ≡ k → ⊥) → shelf n j m ≡ shelf n j l) → Singles key live n l → Singles key live n m
  single_but_one l m k s same w = record { single = λ j h. go j h (eqb j k) refl }
    where
      go : (j : ℕ) → j < symbols → (t : Bool) → eqb j k ≡ t → Single key live (shelf n j m)
      go j h true e = rw (eqb-true j k e) s
      go j h false e = rw (same j (eqb-false j k e)) (w.single j h)

  -- ---- one place of shelf k changed
  module _ (l : List A) (k i : ℕ) (a : A) where
    pub store_other : (m : ℕ) → (m ≡ k → ⊥) → on_shelf key live n (placed_in n k l i a) m ≡ on_shelf key live n l m
    store_other m ne = ap (in_order key live) (shelf_placed_other n k l i a m ne)

    module _ (now-live : List A) (p : Lands key live n (shelf n k l) i a now-live) where
      pub store_own : on_shelf key live n (placed_in n k l i a) k ≡ now-live
      store_own = ap (in_order key live) (shelf_placed n k l i a) ∙ p.now

      pub store_singles : Singles key live n l → Singles key live n (placed_in n k l i a)
      store_singles w = single_but_one l (placed_in n k l i a) k (rw (shelf_placed n k l i a) p.single) (shelf_placed_other n k l i a) w

  -- ---- shelves of empty places; z is the empty element
  module _ (z : A) (dead : live z ≡ false) where
    empty_single : (l : List A) (k : ℕ) → ((i : ℕ) → i < length (shelf n k l) → get_or (shelf n k l) i z ≡ z) → Single key live (shelf n k l)
    empty_single l k p number = let e = nothing_counted n k z (has key live number) (shelf n k l) (rw dead) p in omega arith

    -- a shelf emptied to its end
    module _ (l₀ l : List A) (k : ℕ) (p : EmptiedTo n k z l₀ l n) (reach : k * n + n ≤ length l₀) where
      all_empty : (i : ℕ) → i < length (shelf n k l) → get_or (shelf n k l) i z ≡ z
      all_empty i h = p.empty i (rw (shelf_length n k l (rw p.long reach)) at h)

      pub emptied_own : on_shelf key live n l k ≡ []
      emptied_own = nothing_live n k z key live (shelf n k l) dead all_empty

      pub emptied_other : (m : ℕ) → (m ≡ k → ⊥) → on_shelf key live n l m ≡ on_shelf key live n l₀ m
      emptied_other m ne = ap (in_order key live) (p.others m ne)

      pub emptied_singles : Singles key live n l₀ → Singles key live n l
      emptied_singles w = single_but_one l₀ l k (empty_single l k all_empty) p.others w

    -- the one empty element over and over
    module _ (m : ℕ) where
      pub new_singles : Singles key live n (replicate m z)
      new_singles = record { single = λ k h. empty_single (replicate m z) k (λ i j. shelf_replicated z n k m i) }

      pub new_none : (k : ℕ) → on_shelf key live n (replicate m z) k ≡ []
      new_none k = nothing_live n k z key live (shelf n k (replicate m z)) dead (λ i h. shelf_replicated z n k m i)

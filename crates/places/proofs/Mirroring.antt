-- The numbers and the marks beside a list are its own, so what a search finds among them lies at that place of the list; and they stay so, whatever is stored in all three.
use mathlib.Core.Bool.{Bool, false}
use mathlib.Core.List.{List, [], ◌∷◌, map}
use mathlib.Core.Path.{◌≡◌, refl, sym, ap, ◌∙◌}
use Prim.Native.Nat.{ℕ, zero, suc, ◌+◌, ◌*◌, ◌<◌, ◌≤◌}
use lib.ListN.{length, get_or, set, replicate, length-map, get_or-map}
use Rattle.places.specs.Places.{shelf, has, FoundAt, FreeAt, emptied}
use Rattle.places.specs.Homes.{holds, sought_in, free_in, Mirrored, Near}
use Rattle.places.proofs.Shelves.{shelf_length, shelf_get}
use Rattle.places.proofs.Searching.{counted_nowhere, counted_everywhere}
use Rattle.places.proofs.Nearness.{sought_there, sought_none, free_there, free_none}

-- ---- a list's mirror follows it
module _ {A B : Type 0} (f : A → B) where
  pub map_set : (l : List A) (i : ℕ) (a : A) → map f (set l i a) ≡ set (map f l) i (f a)
  map_set [] i a = refl
  map_set (x ∷ l) zero a = refl
  map_set (x ∷ l) (suc i) a = ap (λ (z : List B). f x ∷ z) (map_set l i a)

  map_emptied : (n k : ℕ) (z : A) (l : List A) (j : ℕ) → map f (emptied n k z l j) ≡ emptied n k (f z) (map f l) j
  unfolding emptied
  map_emptied n k z l zero = refl
  map_emptied n k z l (suc j) = map_set (emptied n k z l j) (k * n + j) z ∙ ap (λ (m : List B). set m (k * n + j) (f z)) (map_emptied n k z l j)

  pub map_replicated : (n : ℕ) (z : A) → map f (replicate n z) ≡ replicate n (f z)
  map_replicated zero z = refl
  map_replicated (suc n) z = ap (λ (l : List B). f z ∷ l) (map_replicated n z)

module _ {A : Type 0} (key : A → ℕ) (live : A → Bool) where
  pub mirrored_set : (l : List A) (ns : List ℕ) (ls : List Bool) (p : ℕ) (a : A) → Mirrored key live l ns ls → Mirrored key live (set l p a) (set ns p (key a)) (set ls p (live a))
  mirrored_set l ns ls p a w = record {
    numbers = ap (λ (m : List ℕ). set m p (key a)) w.numbers ∙ sym (map_set key l p a);
    lives = ap (λ (m : List Bool). set m p (live a)) w.lives ∙ sym (map_set live l p a);
  }

  pub mirrored_emptied : (n k : ℕ) (z : A) (l : List A) (ns : List ℕ) (ls : List Bool) (j : ℕ) → Mirrored key live l ns ls → Mirrored key live (emptied n k z l j) (emptied n k (key z) ns j) (emptied n k (live z) ls j)
  mirrored_emptied n k z l ns ls j w = record {
    numbers = ap (λ (m : List ℕ). emptied n k (key z) m j) w.numbers ∙ sym (map_emptied key n k z l j);
    lives = ap (λ (m : List Bool). emptied n k (live z) m j) w.lives ∙ sym (map_emptied live n k z l j);
  }

  pub mirrored_new : (n : ℕ) (z : A) → Mirrored key live (replicate n z) (replicate n (key z)) (replicate n (live z))
  mirrored_new n z = record { numbers = sym (map_replicated key n z); lives = sym (map_replicated live n z) }

  pub as_many_numbers : (l : List A) (ns : List ℕ) (ls : List Bool) → Mirrored key live l ns ls → length ns ≡ length l
  as_many_numbers l ns ls w = ap (λ (m : List ℕ). length m) w.numbers ∙ length-map l key

  pub as_many_marks : (l : List A) (ns : List ℕ) (ls : List Bool) → Mirrored key live l ns ls → length ls ≡ length l
  as_many_marks l ns ls w = ap (λ (m : List Bool). length m) w.lives ∙ length-map l live

  -- ---- what is found among the numbers and the marks is found on the shelf. d is the empty element
  module _ (d : A) (none : key d ≡ 0) (dead : live d ≡ false) (l : List A) (ns : List ℕ) (ls : List Bool) (w : Mirrored key live l ns ls) (n k : ℕ) (some : 0 < n) (room : k * n + n ≤ length l) (number : ℕ) where
    number_at : (p : ℕ) → get_or ns p 0 ≡ key (get_or l p d)
    number_at p = ap (λ (m : List ℕ). get_or m p 0) w.numbers ∙ ap (λ (z : ℕ). get_or (map key l) p z) (sym none) ∙ get_or-map key l p d

    live_at : (p : ℕ) → get_or ls p false ≡ live (get_or l p d)
    live_at p = ap (λ (m : List Bool). get_or m p false) w.lives ∙ ap (λ (z : Bool). get_or (map live l) p z) (sym dead) ∙ get_or-map live l p d

    in_numbers : k * n + n ≤ length ns
    in_numbers = rw (as_many_numbers l ns ls w) room

    in_lives : k * n + n ≤ length ls
    in_lives = rw (as_many_marks l ns ls w) room

    held_on : (i : ℕ) → i < n → holds ns ls number (k * n + i) ≡ has key live number (get_or (shelf n k l) i d)
    held_on i h = rw (number_at (k * n + i), live_at (k * n + i), shelf_get n k l i d h)

    live_on : (i : ℕ) → i < n → get_or ls (k * n + i) false ≡ live (get_or (shelf n k l) i d)
    live_on i h = rw (live_at (k * n + i), shelf_get n k l i d h)

    pub found_near : (ss : List ℕ) → k * n + n ≤ length ss → Near ns ls ss (k * n) n → FoundAt key live d n number (shelf n k l) (sought_in ns ls ss (k * n) n number)
    found_near ss in_spans near = record {
      there = λ h. sym (held_on _ h) ∙ sought_there ns ls ss (k * n) n number some in_numbers in_lives in_spans h;
      nowhere = λ h. counted_nowhere (has key live number) d (shelf n k l) (λ i g.
          let inside : i < n = (rw (shelf_length n k l room) at g) in
          sym (held_on i inside) ∙ sought_none ns ls ss (k * n) n number some in_numbers in_lives in_spans near h i inside);
    }

    pub free_on : FreeAt live d n (shelf n k l) (free_in ls (k * n) n number)
    free_on = record {
      there = λ h. sym (live_on _ h) ∙ free_there ls (k * n) n number some in_lives h;
      nowhere = λ h. counted_everywhere live d (shelf n k l) (λ i g.
          let inside : i < n = (rw (shelf_length n k l room) at g) in
          sym (live_on i inside) ∙ free_none ls (k * n) n number some in_lives h i inside);
    }

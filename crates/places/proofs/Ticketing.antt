-- Tickets are the places' own, so the first ticket of a number is the first place that has it, and the first 0 the first empty place; and they stay so, whatever is stored in both.
use mathlib.Core.Bool.{Bool, true, false, cond, not}
use mathlib.Core.List.{List, map}
use mathlib.Core.Path.{◌≡◌, refl, sym, ap, ◌∙◌}
use Prim.Native.Nat.{ℕ, suc, ◌+◌, ◌*◌, ◌<◌, ◌≤◌}
use native.Mathlib.Omega.{arith}
use borrow.Author.Tests.{eqb-true, eqb-false, ne_eqb, eq-eqb, lt-ltb}
use lib.Dec.{eqb, ltb}
use lib.ListN.{length, get_or, set, take, drop, replicate, length-map, length-drop, get_or-map}
use lib.Seq.{set-get_or, length-take-le, get_or-take, get_or-drop}
use Rattle.std.specs.List.{position_or_len}
use Rattle.std.proofs.lemmas.List.Recursion.{is_position_or_len}
use Rattle.std.proofs.lemmas.List.Sums.{position_or_len_is}
use Rattle.places.specs.Places.{symbols, shelf, first_where, has, placed_in, spot_in, FoundAt, FreeAt}
use Rattle.places.specs.Homes.{outside}
use Rattle.places.specs.Tickets.{first_in, ticket, Ticketed}
use Rattle.places.proofs.Rounds.{inside, not_outside}
use Rattle.places.proofs.Searching.{FirstFrom, from_the_end, from_here, from_the_next, from_the_first, first_passes, none_counted, all_counted}
use Rattle.places.proofs.Shelves.{shelf_length, shelf_get}
use Rattle.places.proofs.Tables.{first_alike}
use Rattle.places.proofs.Mirroring.{map_set, map_replicated}

-- ---- the first place that passes is the library's
library_first : {A : Type 0} (p : A → Bool) (l : List A) → first_where p l ≡ position_or_len p l
unfolding first_where
library_first p = is_position_or_len (first_where p) p refl (λ x xs. let one_more : suc (first_where p xs) ≡ 1 + first_where p xs = omega arith in ap (cond (p x) 0) one_more)

-- ---- the search of a shelf that lies inside the list
module _ (numbers : List ℕ) (from n number : ℕ) where
  abbrev sought : ℕ → Bool
  sought x = eqb x number

  abbrev pub Back : ℕ → ℕ → Type 0
  Back j r = FirstFrom sought (take n (drop from numbers)) j r

  pub first_outside : (out : Bool) → out ≡ outside from n (length numbers) → out ≡ true → n ≡ first_in numbers from n number
  unfolding first_in
  first_outside out told e = rw (sym told ∙ e)

  module _ (in_List : outside from n (length numbers) ≡ false) where
    long : length (take n (drop from numbers)) ≡ n
    long = length-take-le n (drop from numbers) (omega (arith, (inside from n (length numbers) in_List).fits, length-drop from numbers))

    first_is : (j : ℕ) → first_where sought (take n (drop from numbers)) ≡ j → j ≡ first_in numbers from n number
    unfolding first_in
    first_is j e = rw in_List (sym e)

    at_place : (j : ℕ) → j < n → get_or (take n (drop from numbers)) j 0 ≡ get_or numbers (from + j) 0
    at_place j h = rw (get_or-take, get_or-drop)

    -- the same search from the last place to the first
    pub back_end : Back n n
    back_end = from_the_end sought (take n (drop from numbers)) n long

    pub back_hit : (j : ℕ) → j < n → sought (get_or numbers (from + j) 0) ≡ true → Back j j
    back_hit j h e = from_here sought (take n (drop from numbers)) j 0 (rw long h) (rw (at_place j h) e)

    pub back_miss : (j r : ℕ) → j < n → sought (get_or numbers (from + j) 0) ≡ false → Back (j + 1) r → Back j r
    back_miss j r h e b = from_the_next sought (take n (drop from numbers)) j 0 r (rw long h) (rw (at_place j h) e) b

    pub back_first : (r : ℕ) → Back 0 r → r ≡ first_in numbers from n number
    back_first r b = let e = from_the_first sought (take n (drop from numbers)) r b in e ∙ first_is _ refl

    -- a place before which none has the number, and which has it or is past the last
    pub first_found : (j : ℕ) → j ≤ n → ((i : ℕ) → i < j → sought (get_or numbers (from + i) 0) ≡ false) → (j < n → sought (get_or numbers (from + j) 0) ≡ true) → first_in numbers from n number ≡ j
    first_found j h before hit = sym (first_is j (library_first sought (take n (drop from numbers)) ∙ position_or_len_is sought (take n (drop from numbers)) j 0 (rw long h)
        (λ i g. rw (at_place i (omega (arith, g, h))) (before i g)) (λ g. let inner : j < n = rw long at g in rw (at_place j inner) (hit inner))))

-- ---- a place's ticket
dead_then : (t : Bool) → not t ≡ true → t ≡ false
dead_then true e = sym e
dead_then false e = refl

module _ {A : Type 0} (key : A → ℕ) (live : A → Bool) where
  pub has_ticket : (number : ℕ) (a : A) → eqb (ticket key live a) (suc number) ≡ has key live number a
  has_ticket number a = go (live a) refl
    where
      same : (t : Bool) → eqb (key a) number ≡ t → eqb (suc (key a)) (suc number) ≡ t
      same true e = eq-eqb (suc (key a)) (suc number) (ap suc (eqb-true (key a) number e))
      same false e = ne_eqb (suc (key a)) (suc number) (λ z. eqb-false (key a) number e (omega (arith, z)))

      go : (t : Bool) → live a ≡ t → eqb (ticket key live a) (suc number) ≡ has key live number a
      go true e = rw e (same (eqb (key a) number) refl)
      go false e = rw e (ne_eqb 0 (suc number) (λ z. omega (arith, z)))

  free_ticket : (a : A) → eqb (ticket key live a) 0 ≡ not (live a)
  free_ticket a = go (live a) refl
    where
      go : (t : Bool) → live a ≡ t → eqb (ticket key live a) 0 ≡ not (live a)
      go true e = rw e (ne_eqb (suc (key a)) 0 (λ z. omega (arith, z)))
      go false e = rw e refl

  pub ticketed_set : (l : List A) (ts : List ℕ) (p : ℕ) (a : A) → Ticketed key live l ts → Ticketed key live (set l p a) (set ts p (ticket key live a))
  ticketed_set l ts p a w = ap (λ (m : List ℕ). set m p (ticket key live a)) w ∙ sym (map_set (ticket key live) l p a)

  -- another element with the same ticket
  pub ticketed_same : (l : List A) (ts : List ℕ) (p : ℕ) (a d : A) → ticket key live a ≡ ticket key live (get_or l p d) → Ticketed key live l ts → Ticketed key live (set l p a) ts
  ticketed_same l ts p a d e w = w ∙ sym (map_set (ticket key live) l p a ∙ ap (set (map (ticket key live) l) p) e ∙ sym (map_set (ticket key live) l p (get_or l p d)) ∙ ap (map (ticket key live)) (set-get_or l p d))

  pub ticketed_placed : (n k : ℕ) (l : List A) (ts : List ℕ) (i : ℕ) (a : A) → Ticketed key live l ts → Ticketed key live (placed_in n k l i a) (placed_in n k ts i (ticket key live a))
  ticketed_placed n k l ts i a w = go (ltb i n) refl
    where
      go : (t : Bool) → ltb i n ≡ t → Ticketed key live (placed_in n k l i a) (placed_in n k ts i (ticket key live a))
      go true e = rw e (ticketed_set l ts (k * n + i) a w)
      go false e = rw e w

  -- at the spot of a place
  pub ticketed_at_spot : (n k : ℕ) → k < symbols → (l : List A) (ts : List ℕ) (i : ℕ) (a d : A) → Ticketed key live l ts
      → set ts (spot_in n k i) (ticket key live (cond (ltb i n) a (get_or l (spot_in n k i) d))) ≡ placed_in n k ts i (ticket key live a)
  unfolding spot_in
  ticketed_at_spot n k h l ts i a d w = go (ltb i n) refl
    where
      go : (t : Bool) → ltb i n ≡ t → set ts (spot_in n k i) (ticket key live (cond (ltb i n) a (get_or l (spot_in n k i) d))) ≡ placed_in n k ts i (ticket key live a)
      go true e = rw (e, lt-ltb k symbols h)
      go false e = rw (e, lt-ltb k symbols h) (ticketed_set l ts (k * n + 0) (get_or l (k * n + 0) d) w ∙ ap (map (ticket key live)) (set-get_or l (k * n + 0) d) ∙ sym w)

  pub ticketed_new : (n : ℕ) (z : A) → live z ≡ false → Ticketed key live (replicate n z) (replicate n 0)
  ticketed_new n z e = ap (replicate n) (sym (rw e refl)) ∙ sym (map_replicated (ticket key live) n z)

  pub as_many_tickets : (l : List A) (ts : List ℕ) → Ticketed key live l ts → length ts ≡ length l
  as_many_tickets l ts w = ap (λ (m : List ℕ). length m) w ∙ length-map l (ticket key live)

  -- ---- what is found among the tickets is found on the shelf. d is the empty element
  module _ (d : A) (dead : live d ≡ false) (l : List A) (ts : List ℕ) (w : Ticketed key live l ts) (n k : ℕ) (some : 0 < n) (room : k * n + n ≤ length l) where
    in_tickets : k * n + n ≤ length ts
    in_tickets = rw (as_many_tickets l ts w) room

    ticket_at : (p : ℕ) → get_or ts p 0 ≡ ticket key live (get_or l p d)
    ticket_at p = ap (λ (m : List ℕ). get_or m p 0) w ∙ ap (λ (z : ℕ). get_or (map (ticket key live) l) p z) (sym (rw dead refl)) ∙ get_or-map (ticket key live) l p d

    -- for any test that a ticket tells
    pub first_on : (x : ℕ) (p : A → Bool) → ((a : A) → eqb (ticket key live a) x ≡ p a) → first_in ts (k * n) n x ≡ first_where p (shelf n k l)
    unfolding first_in
    first_on x p tells =
        rw (not_outside (k * n) n (length ts) some in_tickets) (first_alike (λ y. eqb y x) p (shelf n k ts) (shelf n k l) 0 d (shelf_length n k ts in_tickets ∙ sym (shelf_length n k l room))
        (λ i h. let inner : i < n = (rw (shelf_length n k ts in_tickets) at h) in rw (shelf_get n k ts i 0 inner, ticket_at (k * n + i), shelf_get n k l i d inner) (tells (get_or l (k * n + i) d))))

    pub found_first : (number : ℕ) → FoundAt key live d n number (shelf n k l) (first_in ts (k * n) n (suc number))
    found_first number =
        let e = first_on (suc number) (has key live number) (has_ticket number) in
        rw e (record {
          there = λ h. first_passes (has key live number) (shelf n k l) d (rw (shelf_length n k l room) h);
          nowhere = λ h. none_counted (has key live number) (shelf n k l) (rw (shelf_length n k l room) h);
        })

    pub free_first : FreeAt live d n (shelf n k l) (first_in ts (k * n) n 0)
    free_first =
        let e = first_on 0 (λ a. not (live a)) free_ticket in
        rw e (record {
          there = λ h. dead_then _ (first_passes (λ a. not (live a)) (shelf n k l) d (rw (shelf_length n k l room) h));
          nowhere = λ h. all_counted live (shelf n k l) (rw (shelf_length n k l room) h);
        })

-- The first ticket of a number tells where the number is kept, and the first 0 where there is room; so what is then stored is what the rule wants.
use mathlib.Core.Bool.{Bool, true, false, false≢true}
use mathlib.Core.List.{List, map}
use mathlib.Core.Option as maybe
use mathlib.Core.Path.{◌≡◌, refl, sym, ap, ◌∙◌}
use Prim.Native.Nat.{ℕ, suc, ◌<◌}
use native.Mathlib.Omega.{arith}
use borrow.Author.Tests.{eqb-true, lt-ltb, ltb-false, le-ltb}
use lib.Dec.{eqb, ltb}
use lib.ListN.{length, get_or, set, get_or-map}
use Rattle.std.specs.Prelude.{Option, Some, None, is_some, is_none, position, Ok, Err}
use Rattle.std.specs.List.{position_or_len}
use Rattle.std.proofs.lemmas.List.Quantifiers.{position-Some}
use Rattle.std.proofs.lemmas.List.Sums.{fails_before_first}
use Rattle.places.specs.Places.{has, insert, remove, look, in_order, FoundAt, FreeAt, Lands}
use Rattle.places.specs.Tickets.{ticket, Ticketed}
use Rattle.places.proofs.Searching.{counted_nowhere, counted_everywhere}
use Rattle.places.proofs.Ticketing.{has_ticket, as_many_tickets}
use Rattle.places.proofs.Landing.{missing, found, crowded, roomy, lands_new, lands_out, lands_changed}
use Rattle.record.specs.Deciding.{one_more, more, other, Sound, stored, left_out, Keeps, Replaces}

none_passes : {X : Type 0} (p : X → Bool) (xs : List X) (d : X) → position p xs ≡ None → (i : ℕ) → i < length xs → p (get_or xs i d) ≡ false
none_passes p xs d e i h = go (ltb (position_or_len p xs) (length xs)) refl
  where
    go : (b : Bool) → ltb (position_or_len p xs) (length xs) ≡ b → p (get_or xs i d) ≡ false
    go true t = absurd (false≢true (sym (ap is_some (rw t at e))))
    go false t = let past = ltb-false (position_or_len p xs) (length xs) t in fails_before_first p xs i d (omega (arith, past, h))

module _ {A : Type 0} (key : A → ℕ) (live : A → Bool) where
  -- ---- where a search stops. d is an empty element
  module _ (d : A) (dead : live d ≡ false) (l : List A) (ts : List ℕ) (w : Ticketed key live l ts) where
    ticket_at : (i : ℕ) → get_or ts i 0 ≡ ticket key live (get_or l i d)
    ticket_at i = ap (λ (m : List ℕ). get_or m i 0) w ∙ ap (λ (z : ℕ). get_or (map (ticket key live) l) i z) (sym (rw dead refl)) ∙ get_or-map (ticket key live) l i d

    hit : (x i : ℕ) → position (λ t. eqb t x) ts ≡ Some i → eqb (ticket key live (get_or l i d)) x ≡ true
    hit x i e = ap (λ (t : ℕ). eqb t x) (sym (ticket_at i)) ∙ (position-Some (λ t. eqb t x) ts i 0 e).1

    miss : (x : ℕ) → position (λ t. eqb t x) ts ≡ None → (i : ℕ) → i < length l → eqb (ticket key live (get_or l i d)) x ≡ false
    miss x e i h = ap (λ (t : ℕ). eqb t x) (sym (ticket_at i)) ∙ none_passes (λ t. eqb t x) ts 0 e i (rw (as_many_tickets key live l ts w) h)

    free : (a : A) (t : Bool) → eqb (ticket key live a) 0 ≡ t → (s : Bool) → live a ≡ s → (t ≡ true → live a ≡ false) × (t ≡ false → live a ≡ true)
    free a t e false s = (λ u. s, λ u. absurd (false≢true (sym u ∙ sym e ∙ (rw s refl))))
    free a t e true s = (λ u. absurd (omega (arith, eqb-true (suc (key a)) 0 ((rw s at e) ∙ u))), λ u. s)

    at_number : (n i : ℕ) → i < length l → position (λ t. eqb t (suc n)) ts ≡ Some i → FoundAt key live d (length l) n l i
    at_number n i h e = record { there = λ g. sym (has_ticket key live n (get_or l i d)) ∙ hit (suc n) i e; nowhere = λ g. absurd (omega (arith, h, g)) }

    no_number : (n : ℕ) → position (λ t. eqb t (suc n)) ts ≡ None → FoundAt key live d (length l) n l (length l)
    no_number n e = record {
      there = λ (g : length l < length l). absurd (omega (arith, g));
      nowhere = λ g. counted_nowhere (has key live n) d l (λ i h. sym (has_ticket key live n (get_or l i d)) ∙ miss (suc n) e i h);
    }

    at_room : (i : ℕ) → i < length l → position (λ t. eqb t 0) ts ≡ Some i → FreeAt live d (length l) l i
    at_room i h e = record { there = λ g. (free (get_or l i d) true (hit 0 i e) (live (get_or l i d)) refl).0 refl; nowhere = λ g. absurd (omega (arith, h, g)) }

    no_room : position (λ t. eqb t 0) ts ≡ None → FreeAt live d (length l) l (length l)
    no_room e = record {
      there = λ (g : length l < length l). absurd (omega (arith, g));
      nowhere = λ g. counted_everywhere live d l (λ i h. (free (get_or l i d) false (miss 0 e i h) (live (get_or l i d)) refl).1 refl);
    }

  -- ---- what is stored then
  module _ (d : A) (dead : live d ≡ false) (l : List A) (ts : List ℕ) (a : A) where
    pub full : position (λ t. eqb t 0) ts ≡ None → Keeps key live l ts a l ts (Err record {})
    full e = left_out (λ s. rw (crowded key live d dead (length l) l s.shelf (length l) (no_room d dead l ts s.ticketed e) (omega arith), le-ltb (length l) (length l) (omega arith)) (go (look key (key a) (in_order key live l))))
      where
        go : (x : maybe.Option A) → one_more key a (in_order key live l) x false ≡ maybe.none
        go maybe.none = refl
        go (maybe.some b) = refl

    module _ (lv : live a ≡ true) (m : ℕ) (is : m ≡ ticket key live a) where
      of_number : m ≡ suc (key a)
      of_number = rw lv at is

      pub twice : is_none (position (λ t. eqb t m) ts) ≡ false → Keeps key live l ts a l ts (Err record {})
      twice h = left_out (λ s. go s (position (λ t. eqb t (suc (key a))) ts) refl (rw of_number at h))
        where
          go : Sound key live l ts → (o : Option ℕ) → position (λ t. eqb t (suc (key a))) ts ≡ o → is_none o ≡ false → more key live a l ≡ maybe.none
          go s None p q = absurd (false≢true (sym q))
          go s (Some i) p q =
              let within : i < length l = (rw (as_many_tickets key live l ts s.ticketed) at (position-Some (λ t. eqb t (suc (key a))) ts i 0 p).0) in
              rw (found key live d dead (length l) l s.shelf (key a) i (at_number d dead l ts s.ticketed (key a) i within p) within).looked refl

      pub one_kept : (j : ℕ) → j < length l → position (λ t. eqb t 0) ts ≡ Some j → is_none (position (λ t. eqb t m) ts) ≡ true → Keeps key live l ts a (set l j a) (set ts j m) (Ok record {})
      one_kept j g e f = rw is (stored j g (λ s.
          let nowhere = no_number d dead l ts s.ticketed (key a) (go (position (λ t. eqb t (suc (key a))) ts) refl (rw of_number at f)) in
          let room = at_room d dead l ts s.ticketed j g e in (
            insert key a (in_order key live l),
            rw (missing key live d dead (length l) l s.shelf (key a) (length l) nowhere (omega arith), lt-ltb _ _ (roomy key live d dead (length l) l s.shelf j room g)) refl,
            lands_new key live d dead (length l) l s.shelf a (length l) j lv nowhere (omega arith) room g,
          )))
        where
          go : (o : Option ℕ) → position (λ t. eqb t (suc (key a))) ts ≡ o → is_none o ≡ true → position (λ t. eqb t (suc (key a))) ts ≡ None
          go None p q = p
          go (Some i) p q = absurd (false≢true q)

    module _ (n : ℕ) where
      pub unknown : position (λ t. eqb t (suc n)) ts ≡ None → Replaces key live l ts n a l ts (Err record {})
      unknown e = left_out (λ s. rw (missing key live d dead (length l) l s.shelf n (length l) (no_number d dead l ts s.ticketed n e) (omega arith)) refl)

      pub one_replaced : (live a ≡ true → key a ≡ n) → (i : ℕ) → i < length l → position (λ t. eqb t (suc n)) ts ≡ Some i → Replaces key live l ts n a (set l i a) (set ts i (ticket key live a)) (Ok record {})
      one_replaced same i g e = stored i g (λ s. go s (live a) refl)
        where
          go : Sound key live l ts → (t : Bool) → live a ≡ t → (now-live : List A) × (other key live a n l ≡ maybe.some now-live) × Lands key live (length l) l i a now-live
          go s true lv = let at = at_number d dead l ts s.ticketed n i g e in
              (insert key a (remove key n (in_order key live l)), rw ((found key live d dead (length l) l s.shelf n i at g).looked, lv) refl, lands_changed key live d dead (length l) l s.shelf n i a at g (same lv) lv)
          go s false lv = let at = at_number a lv l ts s.ticketed n i g e in
              (remove key n (in_order key live l), rw ((found key live a lv (length l) l s.shelf n i at g).looked, lv) refl, lands_out key live a lv (length l) l s.shelf n i at g)

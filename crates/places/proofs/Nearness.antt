-- What is live lies within the span of its home, so a search that has gone that far has met it. A store raises the span of the home that gains a number and lowers that of a
-- home that loses one; in between, and after it, everything stays within its span. A span that isn't lowered is at most too long.
use mathlib.Core.Bool.{Bool, true, false, cond, not, false≢true, true≢false}
use mathlib.Core.List.{List}
use mathlib.Core.Path.{◌≡◌, refl, sym, ap, ◌∙◌}
use Prim.Native.Nat.{ℕ, ◌+◌, ◌*◌, ◌<◌, ◌≤◌, min}
use native.Mathlib.Omega.{arith}
use borrow.Author.Tests.{not-true, not-false, lt-ltb, eqb-true, eqb-false, leb-true, leb-false}
use lib.Dec.{eqb, leb}
use lib.ListN.{length, get_or, set, length-set, replicate}
use lib.Seq.{get_or-set_same, get_or-set_other}
use Rattle.places.specs.Places.{shelf, emptied, EmptiedTo}
use Rattle.places.specs.Homes.{home_of, away_from, first_round, last_round, holds, homed, sought_in, free_in, raised_to, lowered_to, raised_at, lowered_at, leaves, spans_after, Near}
use Rattle.places.proofs.Shelves.{shelf_get, shelf_other, shelf_replicated}
use Rattle.places.proofs.Emptied.{is_emptied}
use Rattle.places.proofs.Sought.{sought_inside, free_inside, lowered_inside}
use Rattle.places.proofs.Rounds.{home_within, not_outside, away_within, round_away, first_there, first_nowhere, last_beyond}

-- ---- what the searches find
module _ (numbers : List ℕ) (lives : List Bool) (spans : List ℕ) (from n number : ℕ) (some : 0 < n) (in_numbers : from + n ≤ length numbers) (in_lives : from + n ≤ length lives) (in_spans : from + n ≤ length spans) where
  abbrev home : ℕ
  home = home_of n number

  abbrev reach : ℕ
  reach = get_or spans (from + home) 0

  abbrev held : ℕ → Bool
  held i = holds numbers lives number (from + i)

  sought_is : sought_in numbers lives spans from n number ≡ first_round n home (min reach n) 0 held
  sought_is = sought_inside numbers lives spans from n number (not_outside from n (min (min (length numbers) (length lives)) (length spans)) some (omega (arith, in_numbers, in_lives, in_spans)))

  pub sought_there : sought_in numbers lives spans from n number < n → held (sought_in numbers lives spans from n number) ≡ true
  sought_there h = rw sought_is (first_there n home held (min reach n) 0 (rw sought_is at h))

  pub sought_none : Near numbers lives spans from n → n ≤ sought_in numbers lives spans from n number → (i : ℕ) → i < n → held i ≡ false
  sought_none near h i g = go (get_or lives (from + i) false) refl (eqb (get_or numbers (from + i) 0) number) refl
    where
      within : home < n
      within = home_within n number some

      go : (t : Bool) → get_or lives (from + i) false ≡ t → (u : Bool) → eqb (get_or numbers (from + i) 0) number ≡ u → held i ≡ false
      go false e u q = rw e
      go true e false q = rw (e, q)
      go true e true q =
          let away : away_from n home i < reach = (rw (eqb-true (get_or numbers (from + i) 0) number q) at (near.near i g e)) in
          let once = away_within n home within i g in
          let failed = first_nowhere n home held within (min reach n) 0 (omega arith) (rw sought_is at h) (away_from n home i) (omega arith) (omega (arith, away, once)) in
          rw (round_away n home within i g) at failed

module _ (lives : List Bool) (from n number : ℕ) (some : 0 < n) (in_lives : from + n ≤ length lives) where
  abbrev empty_at : ℕ → Bool
  empty_at i = not (get_or lives (from + i) false)

  free_is : free_in lives from n number ≡ first_round n (home_of n number) n 0 empty_at
  free_is = free_inside lives from n number (not_outside from n (length lives) some in_lives)

  pub free_there : free_in lives from n number < n → get_or lives (from + free_in lives from n number) false ≡ false
  free_there h = rw free_is (not-true _ (first_there n (home_of n number) empty_at n 0 (rw free_is at h)))

  pub free_none : n ≤ free_in lives from n number → (i : ℕ) → i < n → get_or lives (from + i) false ≡ true
  free_none h i g =
      let within = home_within n number some in
      let once = away_within n (home_of n number) within i g in
      let failed = first_nowhere n (home_of n number) empty_at within n 0 (omega arith) (rw free_is at h) (away_from n (home_of n number) i) (omega arith) (omega (arith, once)) in
      not-false _ (rw (round_away n (home_of n number) within i g) at failed)

-- ---- one span changed
module _ (spans : List ℕ) (from n a v : ℕ) (in_spans : from + n ≤ length spans) (ha : a < n) where
  span_there : get_or (set spans (from + a) v) (from + a) 0 ≡ v
  span_there = get_or-set_same spans (from + a) v 0 (omega (arith, in_spans, ha))

  span_kept : (h : ℕ) → (h ≡ a → ⊥) → get_or (set spans (from + a) v) (from + h) 0 ≡ get_or spans (from + h) 0
  span_kept h ne = get_or-set_other spans (from + a) (from + h) v 0 (λ e. ne (omega (arith, e)))

  -- a span that is not lowered covers what it covered
  not_lower : (h x : ℕ) → get_or spans (from + a) 0 ≤ v → x < get_or spans (from + h) 0 → x < get_or (set spans (from + a) v) (from + h) 0
  not_lower h x more l = go (eqb h a) refl
    where
      go : (t : Bool) → eqb h a ≡ t → x < get_or (set spans (from + a) v) (from + h) 0
      go true e = let q = eqb-true h a e in rw (q, span_there) (omega (arith, more, (rw q at l)))
      go false e = rw (span_kept h (eqb-false h a e)) l

raised_covers : (n number : ℕ) (live : Bool) (i span : ℕ) → i < n → (span ≤ raised_to n number live i span) × (live ≡ true → away_from n (home_of n number) i < raised_to n number live i span)
unfolding raised_to
raised_covers n number true i span g = rw (lt-ltb i n g) (omega arith, λ e. omega arith)
raised_covers n number false i span g = rw (lt-ltb i n g) (omega arith, λ e. absurd (false≢true e))

-- ---- a number comes to place i: the span of its home is raised
module _ (numbers : List ℕ) (lives : List Bool) (spans : List ℕ) (from n i number : ℕ) (live : Bool) (g : i < n) (in_numbers : from + n ≤ length numbers) (in_lives : from + n ≤ length lives) (in_spans : from + n ≤ length spans) where
  abbrev numbers' : List ℕ
  numbers' = set numbers (from + i) number

  abbrev lives' : List Bool
  lives' = set lives (from + i) live

  abbrev spans' : List ℕ
  spans' = raised_at spans from n i number live

  raised_near : Near numbers lives spans from n → Near numbers' lives' spans' from n
  raised_near near = record { near = λ j h lv. go j h lv (eqb j i) refl }
    where
      within : home_of n number < n
      within = home_within n number (omega (arith, g))

      go : (j : ℕ) → j < n → get_or lives' (from + j) false ≡ true → (t : Bool) → eqb j i ≡ t
          → away_from n (home_of n (get_or numbers' (from + j) 0)) j < get_or spans' (from + home_of n (get_or numbers' (from + j) 0)) 0
      go j h lv true e =
          let q = eqb-true j i e in
          let is_live : live ≡ true = sym (get_or-set_same lives (from + i) live false (omega (arith, in_lives, g))) ∙ (rw q at lv) in
          rw (q, get_or-set_same numbers (from + i) number 0 (omega (arith, in_numbers, g)), span_there spans from n (home_of n number) (raised_to n number live i (get_or spans (from + home_of n number) 0)) in_spans within)
          ((raised_covers n number live i (get_or spans (from + home_of n number) 0) g).1 is_live)
      go j h lv false e =
          let ne : from + j ≡ from + i → ⊥ = λ z. eqb-false j i e (omega (arith, z)) in
          let was_live : get_or lives (from + j) false ≡ true = sym (get_or-set_other lives (from + i) (from + j) live false ne) ∙ lv in
          rw (get_or-set_other numbers (from + i) (from + j) number 0 ne)
          (not_lower spans from n (home_of n number) (raised_to n number live i (get_or spans (from + home_of n number) 0)) in_spans within (home_of n (get_or numbers (from + j) 0)) _
          (raised_covers n number live i (get_or spans (from + home_of n number) 0) g).0 (near.near j h was_live))

-- ---- a home's span lowered: nothing of that home lies beyond
module _ (numbers : List ℕ) (lives : List Bool) (spans : List ℕ) (from n was : ℕ) (some : 0 < n) (in_numbers : from + n ≤ length numbers) (in_lives : from + n ≤ length lives) (in_spans : from + n ≤ length spans) where
  abbrev lost : ℕ
  lost = home_of n was

  abbrev old : ℕ
  old = get_or spans (from + lost) 0

  abbrev left : ℕ
  left = lowered_to numbers lives from n was old

  within_lost : lost < n
  within_lost = home_within n was some

  left_is : left ≡ last_round n lost (min old n) (λ i. homed n numbers lives lost (from + i))
  left_is = lowered_inside numbers lives from n was old (not_outside from n (min (length numbers) (length lives)) some (omega (arith, in_numbers, in_lives)))

  still_covered : (j : ℕ) → j < n → homed n numbers lives lost (from + j) ≡ true → away_from n lost j < old → away_from n lost j < left
  still_covered j g there near = go (leb left (away_from n lost j)) refl
    where
      go : (t : Bool) → leb left (away_from n lost j) ≡ t → away_from n lost j < left
      go false e = leb-false left (away_from n lost j) e
      go true e =
          let once = away_within n lost within_lost j g in
          let none = last_beyond n lost (λ i. homed n numbers lives lost (from + i)) (min old n) (away_from n lost j) (rw left_is at (leb-true left (away_from n lost j) e)) (omega (arith, near, once)) in
          absurd (true≢false (sym there ∙ (rw (round_away n lost within_lost j g) at none)))

  lowered_near : Near numbers lives spans from n → Near numbers lives (lowered_at numbers lives spans from n was) from n
  lowered_near near = record { near = λ j g lv. go j g lv (eqb (home_of n (get_or numbers (from + j) 0)) lost) refl }
    where
      go : (j : ℕ) → j < n → get_or lives (from + j) false ≡ true → (t : Bool) → eqb (home_of n (get_or numbers (from + j) 0)) lost ≡ t
          → away_from n (home_of n (get_or numbers (from + j) 0)) j < get_or (set spans (from + lost) left) (from + home_of n (get_or numbers (from + j) 0)) 0
      go j g lv false e = rw (span_kept spans from n lost left in_spans within_lost (home_of n (get_or numbers (from + j) 0)) (eqb-false _ lost e)) (near.near j g lv)
      go j g lv true e =
          let q = eqb-true (home_of n (get_or numbers (from + j) 0)) lost e in
          let there : homed n numbers lives lost (from + j) ≡ true = rw (lv, e) in
          rw (q, span_there spans from n lost left in_spans within_lost) (still_covered j g there (rw q at (near.near j g lv)))

-- ---- a shelf that nothing changed
module _ (n k : ℕ) where
  same_place : {B : Type 0} (l m : List B) (d : B) → shelf n k m ≡ shelf n k l → (j : ℕ) → j < n → get_or m (k * n + j) d ≡ get_or l (k * n + j) d
  same_place l m d e j g = sym (shelf_get n k m j d g) ∙ ap (λ (x : List _). get_or x j d) e ∙ shelf_get n k l j d g

  near_alike : (numbers ns : List ℕ) (lives ls : List Bool) (spans ss : List ℕ) → shelf n k ns ≡ shelf n k numbers → shelf n k ls ≡ shelf n k lives → shelf n k ss ≡ shelf n k spans
      → Near numbers lives spans (k * n) n → Near ns ls ss (k * n) n
  near_alike numbers ns lives ls spans ss e f g near = record {
    near = λ i h lv.
        rw (same_place numbers ns 0 e i h, same_place spans ss 0 g (home_of n (get_or numbers (k * n + i) 0)) (home_within n (get_or numbers (k * n + i) 0) (omega (arith, h))))
        (near.near i h (rw (same_place lives ls false f i h) at lv));
  }

  -- a shelf on which nothing is live
  near_empty : (numbers : List ℕ) (lives : List Bool) (spans : List ℕ) → ((i : ℕ) → i < n → get_or (shelf n k lives) i false ≡ false) → Near numbers lives spans (k * n) n
  near_empty numbers lives spans none = record { near = λ i h lv. absurd (false≢true (sym (none i h) ∙ shelf_get n k lives i false h ∙ lv)) }

  pub near_new : (long : ℕ) → Near (replicate long 0) (replicate long false) (replicate long 0) (k * n) n
  near_new long = near_empty (replicate long 0) (replicate long false) (replicate long 0) (λ i h. shelf_replicated false n k long i)

-- ---- a store leaves as many spans as there were
pub as_many_spans : (numbers : List ℕ) (lives : List Bool) (spans : List ℕ) (from n i number : ℕ) (live : Bool) → length (spans_after numbers lives spans from n i number live) ≡ length spans
as_many_spans numbers lives spans from n i number live = go (leaves (get_or lives (from + i) false) live (eqb (get_or numbers (from + i) 0) number)) refl
  where
    go : (t : Bool) → leaves (get_or lives (from + i) false) live (eqb (get_or numbers (from + i) 0) number) ≡ t → length (spans_after numbers lives spans from n i number live) ≡ length spans
    go true e = rw (e, length-set, length-set)
    go false e = rw (e, length-set)

-- ---- a change on shelf k keeps every shelf near
module _ (numbers : List ℕ) (lives : List Bool) (spans : List ℕ) (n k : ℕ) (in_numbers : k * n + n ≤ length numbers) (in_lives : k * n + n ≤ length lives) (in_spans : k * n + n ≤ length spans) where
  -- a number stored at place i, whichever home is lowered then, if one is
  module _ (i number : ℕ) (live : Bool) (was : ℕ) (g : i < n) where
    abbrev stored : List ℕ
    stored = set numbers (k * n + i) number

    abbrev marked : List Bool
    marked = set lives (k * n + i) live

    abbrev reaching : List ℕ
    reaching = raised_at spans (k * n) n i number live

    abbrev settled : Bool → List ℕ
    settled gone = cond gone (lowered_at stored marked reaching (k * n) n was) reaching

    some : 0 < n
    some = omega (arith, g)

    stored_here : (gone : Bool) → Near numbers lives spans (k * n) n → Near stored marked (settled gone) (k * n) n
    stored_here true near =
        lowered_near stored marked reaching (k * n) n was some (rw length-set in_numbers) (rw length-set in_lives) (rw length-set in_spans)
        (raised_near numbers lives spans (k * n) n i number live g in_numbers in_lives in_spans near)
    stored_here false near = raised_near numbers lives spans (k * n) n i number live g in_numbers in_lives in_spans near

    spans_elsewhere : (gone : Bool) (m : ℕ) → (m ≡ k → ⊥) → shelf n m (settled gone) ≡ shelf n m spans
    spans_elsewhere true m ne = shelf_other n k reaching (home_of n was) _ m (home_within n was some) ne ∙ shelf_other n k spans (home_of n number) _ m (home_within n number some) ne
    spans_elsewhere false m ne = shelf_other n k spans (home_of n number) _ m (home_within n number some) ne

    stored_elsewhere : (gone : Bool) (m : ℕ) → (m ≡ k → ⊥) → Near numbers lives spans (m * n) n → Near stored marked (settled gone) (m * n) n
    stored_elsewhere gone m ne near = near_alike n m numbers stored lives marked spans (settled gone) (shelf_other n k numbers i number m g ne) (shelf_other n k lives i live m g ne) (spans_elsewhere gone m ne) near

    pub near_stored : (gone : Bool) (m : ℕ) → Near numbers lives spans (m * n) n → Near stored marked (settled gone) (m * n) n
    near_stored gone m near = go (eqb m k) refl
      where
        go : (t : Bool) → eqb m k ≡ t → Near stored marked (settled gone) (m * n) n
        go true e = let q = eqb-true m k e in rw q (stored_here gone (rw q at near))
        go false e = stored_elsewhere gone m (eqb-false m k e) near

  -- every place emptied
  pub near_emptied : (m : ℕ) → Near numbers lives spans (m * n) n → Near (emptied n k 0 numbers n) (emptied n k false lives n) (emptied n k 0 spans n) (m * n) n
  near_emptied m near = go (eqb m k) refl
    where
      marks : EmptiedTo n k false lives (emptied n k false lives n) n
      marks = is_emptied n k false lives in_lives n (omega arith)

      go : (t : Bool) → eqb m k ≡ t → Near (emptied n k 0 numbers n) (emptied n k false lives n) (emptied n k 0 spans n) (m * n) n
      go true e = rw (eqb-true m k e) (near_empty n k (emptied n k 0 numbers n) (emptied n k false lives n) (emptied n k 0 spans n) marks.empty)
      go false e =
          let ne = eqb-false m k e in
          near_alike n m numbers (emptied n k 0 numbers n) lives (emptied n k false lives n) spans (emptied n k 0 spans n)
          ((is_emptied n k 0 numbers in_numbers n (omega arith)).others m ne) (marks.others m ne) ((is_emptied n k 0 spans in_spans n (omega arith)).others m ne) near

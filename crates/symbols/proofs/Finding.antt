-- A symbol is found by its index, whatever is kept of it: one put back with its index is found where it was, and so is every other; a new one takes an empty place.
use mathlib.Core.Bool.{Bool, true, false, false≢true}
use mathlib.Core.List.{List, [], ◌∷◌}
use mathlib.Core.Option.{Option, none, some}
use mathlib.Core.Path.{◌≡◌, refl, sym, ap, ◌∙◌}
use Prim.Native.Nat.{ℕ, ◌<◌, ◌≤◌}
use native.Mathlib.Omega.{arith}
use borrow.Author.Tests.{eqb-true, eq-eqb, ne_eqb, ltb-true, ltb-false}
use lib.Dec.{ltb}
use lib.ListN.{length, get_or, set, get_or-eq_default}
use lib.Seq.{get_or-set_same, get_or-set_other}
use Rattle.places.specs.Places.{symbols, first_where, among}
use Rattle.places.proofs.Searching.{first_passes, first_set, first_new}
use Rattle.symbols.specs.State.{Entry, has_index, place_of, found_in, is_vacant, vacancy_of}
use Rattle.symbols.specs.Registering.{bad, new_entry, registered_if, registered}

pub is_none : {S : Type 0} (x : Option S) → is_vacant x ≡ true → x ≡ none
is_none none e = refl
is_none (some s) e = absurd (false≢true e)

module _ {S : Type 0} (entry : S → Entry) where
  module _ (v : List (Option S)) (index : ℕ) where
    pub missing : length v ≤ place_of entry index v → found_in entry index v ≡ none
    unfolding found_in
    missing h = get_or-eq_default v none h

    module _ (s : S) (e : found_in entry index v ≡ some s) where
      pub place_within : place_of entry index v < length v
      unfolding found_in
      place_within = go (ltb (place_of entry index v) (length v)) refl
        where
          go : (t : Bool) → ltb (place_of entry index v) (length v) ≡ t → place_of entry index v < length v
          go true q = ltb-true _ _ q
          go false q = absurd (let y : ◌≡◌ {A = Option S} none (some s) = sym (get_or-eq_default v none (ltb-false _ _ q)) ∙ e in let z : ◌≡◌ {A = ℕ} 0 1 = cc in omega arith)

      index_is : (entry s).index ≡ index
      unfolding found_in place_of
      index_is = eqb-true (entry s).index index (sym (ap (has_index entry index) e) ∙ first_passes (has_index entry index) v none place_within)

  -- ---- a symbol put back with its index
  module _ (v : List (Option S)) (index : ℕ) (s t : S) (e : found_in entry index v ≡ some s) (same : (entry t).index ≡ (entry s).index) where
    abbrev after : List (Option S)
    after = set v (place_of entry index v) (some t)

    places_kept : (i : ℕ) → place_of entry i after ≡ place_of entry i v
    unfolding found_in place_of
    places_kept i = first_set (has_index entry i) v (place_of entry index v) (some t) none (place_within v index s e) (rw (e, same))

    pub put_own : found_in entry index after ≡ some t
    unfolding found_in
    put_own = rw (places_kept index) (get_or-set_same v (place_of entry index v) (some t) none (place_within v index s e))

    -- two indices do not share a place
    apart : (i : ℕ) → (i ≡ index → ⊥) → place_of entry i v ≡ place_of entry index v → ⊥
    unfolding found_in
    apart i ne p = ne (sym (index_is v i s (rw p e)) ∙ index_is v index s e)

    pub put_others : (i : ℕ) → (i ≡ index → ⊥) → found_in entry i after ≡ found_in entry i v
    unfolding found_in
    put_others i ne = rw (places_kept i) (get_or-set_other v (place_of entry index v) (place_of entry i v) (some t) none (apart i ne))

  -- ---- registering
  module _ (started : Entry → S) (v : List (Option S)) (index : ℕ) (name : List ℕ) (scale : ℕ) where
    abbrev newcomer : S
    newcomer = started (new_entry index name scale)

    -- 0 and 11 to 13
    pub register_answers : among (registered entry started v index name scale).answer (0 ∷ 11 ∷ 12 ∷ 13 ∷ []) ≡ true
    unfolding registered among
    register_answers = go (bad name scale) (ltb (place_of entry index v) symbols) (ltb (vacancy_of v) symbols)
      where
        go : (t known room : Bool) → among (registered_if t known room v newcomer).answer (0 ∷ 11 ∷ 12 ∷ 13 ∷ []) ≡ true
        go true known room = refl
        go false true room = refl
        go false false true = refl
        go false false false = refl

    -- what is so where it is done
    record Admits (next : List (Option S)) : Type 0 where
      pub unknown : symbols ≤ place_of entry index v
      pub within : vacancy_of v < symbols
      pub next_view : next ≡ set v (vacancy_of v) (some newcomer)

    admitted : (t u r : Bool) → ltb (place_of entry index v) symbols ≡ u → ltb (vacancy_of v) symbols ≡ r → (registered_if t u r v newcomer).answer ≡ 0 → Admits (registered_if t u r v newcomer).view
    admitted true u r p q e = absurd (omega (arith, e))
    admitted false true r p q e = absurd (omega (arith, e))
    admitted false false false p q e = absurd (omega (arith, e))
    admitted false false true p q e = record { unknown = ltb-false _ _ p; within = ltb-true _ _ q; next_view = refl }

    module _ (eight : length v ≡ symbols) (has : (entry newcomer).index ≡ index) (done : (registered entry started v index name scale).answer ≡ 0) where
      admits : Admits (registered entry started v index name scale).view
      unfolding registered
      admits = admitted (bad name scale) (ltb (place_of entry index v) symbols) (ltb (vacancy_of v) symbols) refl refl done

      inside : vacancy_of v < length v
      inside = rw eight admits.within

      empty_there : get_or v (vacancy_of v) none ≡ none
      unfolding vacancy_of
      empty_there = is_none (get_or v (vacancy_of v) none) (first_passes is_vacant v none inside)

      -- a new symbol is found by its own index,
      pub register_own : found_in entry index (registered entry started v index name scale).view ≡ some newcomer
      unfolding found_in place_of
      register_own =
          let at : first_where (has_index entry index) (set v (vacancy_of v) (some newcomer)) ≡ vacancy_of v = first_new (has_index entry index) v (vacancy_of v) (some newcomer) inside (eq-eqb _ _ has) (rw eight admits.unknown) in
          rw (admits.next_view, at) (get_or-set_same v (vacancy_of v) (some newcomer) none inside)

      -- and every other one where it was
      pub register_others : (i : ℕ) → (i ≡ index → ⊥) → found_in entry i (registered entry started v index name scale).view ≡ found_in entry i v
      unfolding found_in place_of
      register_others i ne =
          let at : first_where (has_index entry i) (set v (vacancy_of v) (some newcomer)) ≡ first_where (has_index entry i) v = first_set (has_index entry i) v (vacancy_of v) (some newcomer) none inside (rw (has, ne_eqb index i (λ e. ne (sym e)), empty_there)) in
          rw (admits.next_view, at) (get_or-set_other v (vacancy_of v) (first_where (has_index entry i) v) (some newcomer) none (elsewhere i))
        where
          elsewhere : (j : ℕ) → first_where (has_index entry j) v ≡ vacancy_of v → ⊥
          elsewhere j e = false≢true (rw (e, empty_there) at (first_passes (has_index entry j) v none (rw e inside)))

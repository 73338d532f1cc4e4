-- Registering refuses in document 01's order; a new symbol takes the first empty place.
use mathlib.Core.Bool.{Bool, true, false, cond, true≢false}
use mathlib.Core.List.{List}
use mathlib.Core.Option.{Option, none, some}
use mathlib.Core.Path.{◌≡◌, refl, sym, ap, ◌∙◌}
use Prim.Native.Nat.{ℕ, suc, ◌+◌, ◌<◌, ◌≤◌}
use Rattle.std.specs.Prelude.{◌≢◌, Some, None, IsSomeAnd, Result, Ok, Err}
use native.Mathlib.Omega.{arith}
use borrow.Author.Tests.{lt-ltb, le-ltb, ltb-false, eqb-true}
use lib.Dec.{ltb, eqb}
use lib.ListN.{length, get_or, take, set, length-set}
use Rattle.places.specs.Places.{symbols, first_where, one, count}
use Rattle.places.proofs.Searching.{first_passes, none_counted}
use Rattle.places.proofs.Sums.{sum_set}
use Rattle.places.proofs.Ticketing.{ticketed_set}
use Rattle.symbols.specs.State.{name_bytes, padded_name, Entry, has_index, is_vacant, place_at, entry_in, entries, itself, place_of, found_in, vacancy_of, place_index, place_used, nobody}
use Rattle.symbols.specs.Answers.{answered, register_number}
use Rattle.symbols.specs.Registering.{byte_bad, name_bad, most_scale, new_entry, registered, listed, told_of}
use Rattle.symbols.specs.Promises.{after, Registers}
use Rattle.symbols.specs.declared.Place.{Place}
use Rattle.symbols.specs.declared.Symbols.{Symbols}
use Rattle.symbols.specs.declared.registering.RegisterError.{RegisterError}
use Rattle.symbols.specs.declared.registering.RegisterError.TheVariants.{BadName, Taken, Full}
use Rattle.symbols.proofs.Finding.{is_none}
use Rattle.symbols.proofs.Padding.{take_padded}
use Rattle.symbols.proofs.Entries.{length_entries, nobody_there, entry_past, entry_there, with_place, entries_set, used_there}

-- a good name is not too long
pub name_short : (name : List ℕ) → name_bad name ≡ false → length name ≤ name_bytes
unfolding name_bad
name_short name = go (eqb (length name) 0) (ltb name_bytes (length name)) refl
  where
    go : (t u : Bool) → ltb name_bytes (length name) ≡ u → cond t true (cond u true (ltb (first_where byte_bad name) (length name))) ≡ false → length name ≤ name_bytes
    go true u p e = absurd (true≢false e)
    go false true p e = absurd (true≢false e)
    go false false p e = ltb-false name_bytes (length name) p

-- ---- the new symbol's place
abbrev new_place : ℕ → List ℕ → ℕ → Place
new_place index name scale = record { used = true; index = index; name = padded_name name; len = length name; scale = scale; standing = record { expected = 1; stale = false; whole = true } }

module _ (b : Symbols) (index : ℕ) (name : List ℕ) (scale : ℕ) where
  pub refused_scale : most_scale < scale → Registers b index name scale (Err BadName)
  unfolding registered
  refused_scale h = record { next = rw (lt-ltb _ _ h); answer = rw (lt-ltb _ _ h); wf = λ w. w }

  module _ (s : scale ≤ most_scale) where
    pub refused_name : name_bad name ≡ true → Registers b index name scale (Err BadName)
    unfolding registered
    refused_name n = record { next = rw (le-ltb _ _ s, n); answer = rw (le-ltb _ _ s, n); wf = λ w. w }

    module _ (n : name_bad name ≡ false) where
      pub refused_twice : place_of itself index (entries b) < symbols → Registers b index name scale (Err Taken)
      unfolding registered
      refused_twice h = record { next = rw (le-ltb _ _ s, n, lt-ltb _ _ h); answer = rw (le-ltb _ _ s, n, lt-ltb _ _ h); wf = λ w. w }

      module _ (u : symbols ≤ place_of itself index (entries b)) where
        pub refused_ninth : symbols ≤ vacancy_of (entries b) → Registers b index name scale (Err Full)
        unfolding registered
        refused_ninth h = record { next = rw (le-ltb _ _ s, n, le-ltb _ _ u, le-ltb _ _ h); answer = rw (le-ltb _ _ s, n, le-ltb _ _ u, le-ltb _ _ h); wf = λ w. w }

        -- the new index was nowhere, so it is now registered once
        entered_once : (k : ℕ) → k ≡ vacancy_of (entries b) → k < symbols → (x : Entry) → x.index ≡ index → (i : ℕ) → count (has_index itself i) (entries b) ≤ 1 → count (has_index itself i) (set (entries b) k (some x)) ≤ 1
        unfolding vacancy_of place_of
        entered_once k e h x is i once =
            let inside : k < length (entries b) = (rw (length_entries b) h) in
            let free : get_or (entries b) k none ≡ none = is_none _ (rw e (first_passes is_vacant (entries b) none (rw (← e) inside))) in
            let z = sum_set (λ (y : Option Entry). one (has_index itself i y)) (entries b) k (some x) none inside in
            go (eqb x.index i) refl (rw free at z)
          where
            go : (t : Bool) → eqb x.index i ≡ t → count (has_index itself i) (set (entries b) k (some x)) + 0 ≡ count (has_index itself i) (entries b) + one (eqb x.index i) → count (has_index itself i) (set (entries b) k (some x)) ≤ 1
            go true q w =
                let same : index ≡ i = sym is ∙ eqb-true x.index i q in
                let none_yet : count (has_index itself i) (entries b) ≡ 0 = (rw (← same) (none_counted (has_index itself index) (entries b) (rw (length_entries b) u))) in
                omega (arith, rw q at w, none_yet)
            go false q w = omega (arith, rw q at w, once)

        pub enters : (k : ℕ) → k ≡ vacancy_of (entries b) → k < symbols → length b.places ≡ symbols → Registers b index name scale (Ok (with_place b k (new_place index name scale) (set b.tickets k (suc index))))
        unfolding registered
        enters k e h eight =
            let l : ltb (vacancy_of (entries b)) symbols ≡ true = lt-ltb _ _ (rw e at h) in
            record {
              next = rw (le-ltb _ _ s, n, le-ltb _ _ u, l) (entries_set b k (new_place index name scale) (set b.tickets k (suc index)) h eight ∙ ap (λ (m : ℕ). set (entries b) m (some (entry_in (new_place index name scale)))) e);
              answer = rw (le-ltb _ _ s, n, le-ltb _ _ u, l);
              wf = λ w. record {
                once = λ i. rw (entries_set b k (new_place index name scale) (set b.tickets k (suc index)) h eight) (entered_once k e h (entry_in (new_place index name scale)) refl i (w.once i));
                long = length-set b.places k (new_place index name scale) ∙ w.long;
                ticketed = ticketed_set place_index place_used b.places b.tickets k (new_place index name scale) w.ticketed;
              };
            }

-- ---- refused, the symbols are those that came in
pub refused_keeps : (b : Symbols) (r : Result Symbols RegisterError) → answered register_number r ≢ 0 → after b r ≡ b
refused_keeps b (Ok s) n = absurd (n refl)
refused_keeps b (Err e) n = refl

-- ---- what is told of a symbol
module _ (b : Symbols) (index : ℕ) where
  pub told_missing : symbols ≤ place_of itself index (entries b) → None ≡ told_of (found_in itself index (entries b))
  unfolding told_of found_in
  told_missing h = sym (ap told_of (entry_past b (place_of itself index (entries b)) h))

  pub told_at : (k : ℕ) → k ≡ place_of itself index (entries b) → k < symbols → Some (listed (entry_in (place_at b k))) ≡ told_of (found_in itself index (entries b))
  unfolding told_of found_in
  told_at k is h = sym (ap told_of (ap (λ (n : ℕ). get_or (entries b) n none) (sym is) ∙ entry_there b k h (used_there b index k is h)))

-- a new symbol is told by the name that was registered, to its length
pub told_by_its_name : (index : ℕ) (name : List ℕ) (scale : ℕ) → name_bad name ≡ false → IsSomeAnd (told_of (some (new_entry index name scale))) (λ l. take l.len l.name ≡ name)
unfolding told_of
told_by_its_name index name scale good = take_padded name (name_short name good)

-- ---- a good symbol is taken into new symbols: there is such a result
pub record SomeEntered (index : ℕ) (name : List ℕ) (scale : ℕ) : Type 0 where
  pub result : Result Symbols RegisterError
  pub registers : Registers nobody index name scale result

pub some_entered : (index : ℕ) (name : List ℕ) (scale : ℕ) → scale ≤ most_scale → name_bad name ≡ false → SomeEntered index name scale
unfolding place_of vacancy_of first_where
some_entered index name scale s n = record { result = _; registers = enters nobody index name scale s n (rw nobody_there (omega arith)) 0 (rw nobody_there) (omega arith) refl }

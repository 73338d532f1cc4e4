-- A place that stands otherwise is an entry altered; past the eighth place nothing is.
use mathlib.Core.Bool.{Bool, true, false}
use mathlib.Core.Option.{Option, none, some, map}
use mathlib.Core.Path.{◌≡◌, refl, sym, ap, ◌∙◌}
use Prim.Native.Nat.{ℕ, ◌<◌, ◌≤◌}
use native.Mathlib.Omega.{arith}
use lib.ListN.{length, get_or, set, length-set}
use lib.Seq.{set-get_or}
use Rattle.places.specs.Places.{symbols, one, count}
use Rattle.places.proofs.Sums.{sum_set}
use Rattle.places.proofs.Ticketing.{ticketed_same}
use Rattle.symbols.specs.State.{Entry, nowhere, has_index, place_at, entry_in, entries, itself, place_index, place_used}
use Rattle.symbols.specs.Turns.{restanding, standing_of}
use Rattle.symbols.specs.Promises.{standing_by, altered, Alters}
use Rattle.symbols.specs.declared.Standing.{Standing}
use Rattle.symbols.specs.declared.Place.{Place}
use Rattle.symbols.specs.declared.Symbols.{Symbols}
use Rattle.symbols.proofs.Entries.{seen, length_entries, entry_at, entry_past, with_place, entries_set}

seen_moved : (f : Standing → Standing) (u : Bool) (p : Place) → seen u (entry_in (restanding p (f p.standing))) ≡ map (standing_by f) (seen u (entry_in p))
seen_moved f true p = refl
seen_moved f false p = refl

-- what is known of where the symbol stands says what it becomes
same_moved : (f : Standing → Standing) (x : Option Entry) (s : Standing) → s ≡ f (standing_of x) → map (standing_by (λ t. s)) x ≡ map (standing_by f) x
unfolding standing_of
same_moved f none s e = refl
same_moved f (some x) s e = rw e

-- an entry that stands otherwise has its index
same_index : (index : ℕ) (f : Standing → Standing) (x : Option Entry) → has_index itself index (map (standing_by f) x) ≡ has_index itself index x
same_index index f none = refl
same_index index f (some e) = refl

module _ (b : Symbols) (k : ℕ) where
  -- so no index is registered twice
  still_once : (f : Standing → Standing) (r : Symbols) → k < symbols → entries r ≡ altered k f (entries b) → (index : ℕ) → count (has_index itself index) (entries b) ≤ 1 → count (has_index itself index) (entries r) ≤ 1
  unfolding altered
  still_once f r h e index once =
      let x = get_or (entries b) k none in
      let z = sum_set (λ (y : Option Entry). one (has_index itself index y)) (entries b) k (map (standing_by f) x) none (rw (length_entries b) h) in
      let w = (rw (same_index index f x) at z) in
      rw e (omega (arith, w, once))

  -- a place that stands otherwise
  module _ (f : Standing → Standing) (h : k < symbols) (eight : length b.places ≡ symbols) where
    abbrev moved : Place
    moved = restanding (place_at b k) (f (place_at b k).standing)

    stored : entries (with_place b k moved b.tickets) ≡ altered k f (entries b)
    unfolding altered
    stored = entries_set b k moved b.tickets h eight ∙ ap (λ (x : Option Entry). set (entries b) k x) (seen_moved f (place_at b k).used (place_at b k) ∙ ap (map (standing_by f)) (sym (entry_at b k h)))

    pub stands : Alters b k f (with_place b k moved b.tickets)
    stands = record {
      outside = λ o. absurd (omega (arith, h, o));
      next = stored;
      wf = λ w. record {
        once = λ index. still_once f _ h stored index (w.once index);
        long = length-set b.places k moved ∙ w.long;
        ticketed = ticketed_same place_index place_used b.places b.tickets k moved nowhere refl w.ticketed;
      };
    }

  module _ (s : Standing) where
    pub stands_nowhere : symbols ≤ k → Alters b k (λ t. s) b
    unfolding altered
    stands_nowhere h = record {
      outside = λ o. refl;
      next = sym (ap (λ (x : Option Entry). set (entries b) k (map (standing_by (λ t. s)) x)) (entry_past b k h) ∙ ap (set (entries b) k) (sym (entry_past b k h)) ∙ set-get_or (entries b) k none);
      wf = λ w. w;
    }

  pub alters : (f : Standing → Standing) (s : Standing) (r : Symbols) → s ≡ f (standing_of (get_or (entries b) k none)) → Alters b k (λ t. s) r → Alters b k f r
  unfolding altered
  alters f s r e p = record { outside = p.outside; next = p.next ∙ ap (set (entries b) k) (same_moved f (get_or (entries b) k none) s e); wf = p.wf }

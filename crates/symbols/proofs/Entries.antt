-- What stands at a place of the entries is what the place of registration tells, and a place changed is seen there alone.
use mathlib.Core.Bool.{Bool, true, false, cond, false≢true}
use mathlib.Core.List.{List}
use mathlib.Core.Option.{Option, none, some}
use mathlib.Core.Path.{◌≡◌, refl, sym, ap, ◌∙◌}
use Prim.Native.Nat.{ℕ, suc, ◌<◌, ◌≤◌}
use native.Mathlib.Omega.{arith}
use lib.Dec.{eqb}
use lib.ListN.{length, get_or, set, take, get_or-eq_default, replicate}
use lib.Seq.{take-length, get_or-set_same, get_or-set_other}
use Rattle.std.specs.Prelude as answer
use Rattle.std.specs.Prelude.{Some, None, is_some}
use Rattle.places.specs.Places.{symbols, AtPlace, tabulate, first_where, sum_by, count}
use Rattle.places.proofs.Tables.{length_tabulate, get_d_tabulate, tabulate_but_one, first_alike}
use Rattle.places.specs.Tickets.{first_in}
use Rattle.places.proofs.Searching.{FirstOf, first_answered, first_passes}
use Rattle.places.proofs.Ticketing.{has_ticket, first_on}
use Rattle.symbols.specs.State.{nowhere, Entry, place_at, entry_in, entries, itself, has_index, is_vacant, place_of, vacancy_of, place_index, place_used, Wf, nobody}
use Rattle.symbols.specs.declared.Place.{Place}
use Rattle.symbols.specs.declared.Symbols.{Symbols}

-- an entry where the place is used
abbrev pub seen : Bool → Entry → Option Entry
seen used e = cond used (some e) none

pub length_entries : (b : Symbols) → length (entries b) ≡ symbols
unfolding entries
length_entries b = length_tabulate symbols _

pub entry_at : (b : Symbols) (k : ℕ) → k < symbols → get_or (entries b) k none ≡ seen (place_at b k).used (entry_in (place_at b k))
unfolding entries
entry_at b k h = get_d_tabulate symbols _ k none h

pub entry_past : (b : Symbols) (k : ℕ) → symbols ≤ k → get_or (entries b) k none ≡ none
entry_past b k h = get_or-eq_default (entries b) none (rw (length_entries b) h)

-- by what a test of the place says
module _ (b : Symbols) (k : ℕ) (h : k < symbols) where
  pub entry_there : (place_at b k).used ≡ true → get_or (entries b) k none ≡ some (entry_in (place_at b k))
  entry_there u = entry_at b k h ∙ ap (λ (t : Bool). seen t (entry_in (place_at b k))) u

  pub entry_missing : (place_at b k).used ≡ false → get_or (entries b) k none ≡ none
  entry_missing u = entry_at b k h ∙ ap (λ (t : Bool). seen t (entry_in (place_at b k))) u

-- ---- a place as the searches see it
abbrev pub named : ℕ → Place → Bool
named index p = cond p.used (eqb p.index index) false

abbrev pub unused : Place → Bool
unused p = cond p.used false true

named_seen : (index : ℕ) (u : Bool) (e : Entry) → has_index itself index (seen u e) ≡ cond u (eqb e.index index) false
named_seen index true e = refl
named_seen index false e = refl

unused_seen : (u : Bool) (e : Entry) → is_vacant (seen u e) ≡ cond u false true
unused_seen true e = refl
unused_seen false e = refl

module _ (b : Symbols) (eight : length b.places ≡ symbols) where
  pub place_is : (index : ℕ) → first_where (named index) b.places ≡ place_of itself index (entries b)
  unfolding place_of
  place_is index = sym (first_alike (has_index itself index) (named index) (entries b) b.places none nowhere (length_entries b ∙ sym eight)
      (λ k h. ap (has_index itself index) (entry_at b k (rw (length_entries b) at h)) ∙ named_seen index (place_at b k).used (entry_in (place_at b k))))

  pub vacancy_is : first_where unused b.places ≡ vacancy_of (entries b)
  unfolding vacancy_of
  vacancy_is = sym (first_alike is_vacant unused (entries b) b.places none nowhere (length_entries b ∙ sym eight)
      (λ k h. ap is_vacant (entry_at b k (rw (length_entries b) at h)) ∙ unused_seen (place_at b k).used (entry_in (place_at b k))))

-- ---- an entry that is looked for stands at its place
seen_named : (index : ℕ) (u : Bool) (e : Entry) → has_index itself index (seen u e) ≡ true → u ≡ true
seen_named index true e p = refl
seen_named index false e p = absurd (false≢true p)

pub used_there : (b : Symbols) (index k : ℕ) → k ≡ place_of itself index (entries b) → k < symbols → (place_at b k).used ≡ true
unfolding place_of
used_there b index k e h =
    let p : has_index itself index (get_or (entries b) k none) ≡ true = (rw e (first_passes (has_index itself index) (entries b) none (rw (length_entries b, ← e) h))) in
    seen_named index (place_at b k).used (entry_in (place_at b k)) (sym (ap (has_index itself index) (entry_at b k h)) ∙ p)

-- ---- what a search of the eight places answers
place_answered : (p : Place → Bool) (l : List Place) (n : ℕ) → length l ≡ symbols → first_where p l ≡ n → (r : answer.Option ℕ) → FirstOf p l r → AtPlace symbols r n
place_answered p l n eight is None f = let e : first_where p l ≡ length l = first_answered p l None f in omega (arith, e, eight, is)
place_answered p l n eight is (Some k) f = let e : first_where p l ≡ k = first_answered p l (Some k) f in (omega (arith, e, is), omega (arith, f.0, eight))

module _ (b : Symbols) (eight : length b.places ≡ symbols) where
  pub named_place : (index : ℕ) (r : answer.Option ℕ) → FirstOf (named index) b.places r → AtPlace symbols r (place_of itself index (entries b))
  named_place index = place_answered (named index) b.places _ eight (place_is b eight index)

  pub vacant_place : (r : answer.Option ℕ) → FirstOf unused b.places r → AtPlace symbols r (vacancy_of (entries b))
  vacant_place = place_answered unused b.places _ eight (vacancy_is b eight)

-- ---- a place that was answered, or none
pub there_is : (r : answer.Option ℕ) (n : ℕ) → AtPlace symbols r n → is_some r ≡ true → n < symbols
there_is None n h e = absurd (false≢true e)
there_is (Some k) n h e = omega (arith, h.0, h.1)

pub there_is_none : (r : answer.Option ℕ) (n : ℕ) → AtPlace symbols r n → is_some r ≡ false → symbols ≤ n
there_is_none None n h e = h
there_is_none (Some k) n h e = absurd (false≢true (sym e))

-- ---- a place changed
abbrev pub with_place : Symbols → ℕ → Place → List ℕ → Symbols
with_place b k p ts = record { places = set b.places k p; tickets = ts }

module _ (b : Symbols) (k : ℕ) (p : Place) (ts : List ℕ) (in_range : k < symbols) (eight : length b.places ≡ symbols) where
  place_set : place_at (with_place b k p ts) k ≡ p
  place_set = get_or-set_same b.places k p nowhere (rw eight in_range)

  place_other : (m : ℕ) → (m ≡ k → ⊥) → place_at (with_place b k p ts) m ≡ place_at b m
  place_other m ne = get_or-set_other b.places k m p nowhere ne

  pub entries_set : entries (with_place b k p ts) ≡ set (entries b) k (seen p.used (entry_in p))
  unfolding entries
  entries_set = tabulate_but_one symbols _ _ k in_range (λ m l ne. rw (place_other m ne)) ∙ ap (λ (q : Place). set (entries b) k (seen q.used (entry_in q))) place_set

-- ---- the new symbols
pub nobody_there : entries nobody ≡ replicate symbols none
unfolding entries tabulate
nobody_there = refl

nobody_once : (index : ℕ) → count (has_index itself index) (entries nobody) ≤ 1
unfolding entries tabulate sum_by
nobody_once index = omega arith

pub nobody_sound : Wf nobody
nobody_sound = record { once = nobody_once; long = refl; ticketed = refl }

-- ---- by the tickets
pub seat_is : (b : Symbols) → Wf b → (index : ℕ) → first_in b.tickets 0 symbols (suc index) ≡ place_of itself index (entries b)
seat_is b w index =
    first_on place_index place_used nowhere refl b.places b.tickets w.ticketed symbols 0 (omega arith) (rw w.long (omega arith)) (suc index) (named index) (has_ticket place_index place_used index)
    ∙ ap (λ (n : ℕ). first_where (named index) (take n b.places)) (sym w.long) ∙ ap (first_where (named index)) (take-length b.places) ∙ place_is b w.long index

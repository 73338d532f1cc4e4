-- A state that began is sound, and registering adds a symbol that expects number 1 or changes nothing, so each symbol of it is new.
use mathlib.Core.Bool.{Bool, true, false}
use mathlib.Core.List.{List}
use mathlib.Core.Path.{◌≡◌, refl}
use Prim.Native.Nat.{ℕ}
use lib.Dec.{ltb, eqb}
use lib.ListN.{length}
use borrow.Author.Tests.{eqb-true, eqb-false}
use Rattle.markets.specs.declared.Market.{Market}
use Rattle.feed.specs.Reader.{New, unregistered, registered}
use Rattle.places.specs.Places.{symbols}
use Rattle.symbols.specs.State.{vacancy_of}
use Rattle.symbols.specs.Registering as registering
use Rattle.symbols.specs.Registering.{bad, new_entry, registered_if}
use Rattle.book.specs.State.{View, with_places, view, entry_of, place_in, symbol_in, Wf, Fresh}
use Rattle.book.specs.Registering.{started, register_of}
use Rattle.book.specs.Reached.{Reached}
use Rattle.book.specs.Reached as reached
use Rattle.book.specs.declared.Book.{Book}
use Rattle.book.proofs.Views.{length_view}
use Rattle.book.proofs.Beginning.{new_unregistered}
use Rattle.symbols.proofs.Finding.{register_own, register_others}
use Rattle.book.proofs.Reaching.{reached_wf}
use Rattle.demands.specs.Reader.{pillar, kept_if, kept_in}
use Rattle.demands.specs.Demand3.{Began, new, registers}

began_reached : {b : Book} → Began b → Reached b
began_reached (new f) = reached.new f
began_reached (registers index name scale p s) = reached.registered index name scale (began_reached p) s

pub began_wf : {b : Book} → Began b → Wf b
began_wf p = reached_wf (began_reached p)

abbrev AllNew : View → Type 0
AllNew v = (i : ℕ) → New pillar (kept_in v i)

fresh_new : (market : Market) (b : Book) → Fresh market b → AllNew (view b)
unfolding kept_in
fresh_new market b f i = rw (new_unregistered market b f i) unregistered

module _ (v : View) (eight : length v.places ≡ symbols) (index : ℕ) (name : List ℕ) (scale : ℕ) (before : AllNew v) where
  done_new : (register_of v index name scale).answer ≡ 0 → AllNew (register_of v index name scale).view
  unfolding kept_in
  done_new d i = go (eqb i index) refl
    where
      go : (same : Bool) → eqb i index ≡ same → New pillar (kept_if (symbol_in i (register_of v index name scale).view))
      go true e = rw (eqb-true i index e, register_own entry_of started v.places index name scale eight refl d) registered
      go false e = rw (register_others entry_of started v.places index name scale eight refl d i (eqb-false i index e)) (before i)

  registered_new : AllNew (register_of v index name scale).view
  unfolding registering.registered
  registered_new = go (bad name scale) (ltb (place_in index v) symbols) (ltb (vacancy_of v.places) symbols) refl refl refl
    where
      go : (t u r : Bool) → bad name scale ≡ t → ltb (place_in index v) symbols ≡ u → ltb (vacancy_of v.places) symbols ≡ r
          → AllNew (with_places v (registered_if (bad name scale) (ltb (place_in index v) symbols) (ltb (vacancy_of v.places) symbols) v.places (started (new_entry index name scale))).view)
      go true u r p q z = rw p before
      go false true r p q z = rw (p, q) before
      go false false false p q z = rw (p, q, z) before
      go false false true p q z = done_new (rw (p, q, z))

pub began_new : {b : Book} → Began b → AllNew (view b)
began_new (new {b = b} {market = market} f) = fresh_new market b f
began_new (registers {b = b} index name scale p s) =
    rw (s.obeys (began_wf p)).next_view (registered_new (view b) (length_view b) index name scale (began_new p))

-- The view is a table of the eight places, so what stands at a place of it is what the rooms hold there, and a change at one place is seen at that place alone.
use mathlib.Core.Bool.{Bool, true, false, false≢true}
use mathlib.Core.List.{List, []}
use mathlib.Core.Option.{Option, none, some, map}
use mathlib.Core.Path.{◌≡◌, refl, sym, ap, ◌∙◌}
use Prim.Native.Nat.{ℕ, ◌<◌, ◌≤◌}
use borrow.Author.Tests.{eqb-true, eqb-false}
use lib.Dec.{eqb}
use lib.ListN.{length, get_or, set}
use Rattle.markets.specs.Numbers.{market_of}
use Rattle.places.specs.Places.{symbols}
use Rattle.places.proofs.Tables.{length_tabulate, get_d_tabulate, tabulate_but_one, first_alike}
use Rattle.places.proofs.Searching.{first_passes}
use Rattle.symbols.specs.State as symbols-room
use Rattle.symbols.specs.State.{Entry, entries, itself, has_index, is_vacant, place_of, found_in, vacancy_of}
use Rattle.symbols.proofs.Entries.{length_entries}
use Rattle.symbols.proofs.Finding.{missing}
use Rattle.orders.specs.State as orders-room
use Rattle.orders.specs.declared.Order.{Order}
use Rattle.record.specs.State as record-room
use Rattle.record.specs.State.{Kept, nothing_kept}
use Rattle.book.specs.State.{Symbol, with_places, entry_at, orders_at, record_at, symbol_of, view, entry_of, place_in, symbol_in, Wf}
use Rattle.book.specs.Step.{Meeting, put}
use Rattle.book.specs.Promises.{Obeys}
use Rattle.book.specs.declared.Book.{Book}

-- a symbol where there is an entry
abbrev pub seen : Option Entry → List Order → Kept → Option Symbol
seen x os z = map (λ e. symbol_of e os z) x

-- ---- the market is the state's own
pub view_market : (b : Book) → (view b).market ≡ market_of b.market
unfolding view
view_market b = refl

pub same_market : (b r : Book) → r.market ≡ b.market → (view r).market ≡ (view b).market
same_market b r e = view_market r ∙ ap market_of e ∙ sym (view_market b)

-- ---- what stands at a place
pub length_view : (b : Book) → length (view b).places ≡ symbols
unfolding view
length_view b = length_tabulate symbols _

pub view_at : (b : Book) (k : ℕ) → k < symbols → get_or (view b).places k none ≡ seen (entry_at b k) (orders_at b k) (record_at b k)
unfolding view
view_at b k h = get_d_tabulate symbols _ k none h

-- ---- a symbol is looked for by its entry
index_seen : (index : ℕ) (x : Option Entry) (os : List Order) (z : Kept) → has_index itself index x ≡ has_index entry_of index (seen x os z)
index_seen index none os z = refl
index_seen index (some e) os z = refl

vacant_seen : (x : Option Entry) (os : List Order) (z : Kept) → is_vacant x ≡ is_vacant (seen x os z)
vacant_seen none os z = refl
vacant_seen (some e) os z = refl

module _ (b : Book) where
  pub place_is : (index : ℕ) → place_of itself index (entries b.symbols) ≡ place_in index (view b)
  unfolding place_of
  place_is index = first_alike (has_index itself index) (has_index entry_of index) (entries b.symbols) (view b).places none none (length_entries b.symbols ∙ sym (length_view b))
      (λ k h. index_seen index (entry_at b k) (orders_at b k) (record_at b k) ∙ ap (has_index entry_of index) (sym (view_at b k (rw (length_entries b.symbols) at h))))

  pub vacancy_is : vacancy_of (entries b.symbols) ≡ vacancy_of (view b).places
  unfolding vacancy_of
  vacancy_is = first_alike is_vacant is_vacant (entries b.symbols) (view b).places none none (length_entries b.symbols ∙ sym (length_view b))
      (λ k h. vacant_seen (entry_at b k) (orders_at b k) (record_at b k) ∙ ap is_vacant (sym (view_at b k (rw (length_entries b.symbols) at h))))

-- ---- a symbol that is looked for
pub symbol_missing : (b : Book) (index : ℕ) → symbols ≤ place_in index (view b) → symbol_in index (view b) ≡ none
symbol_missing b index h = missing entry_of (view b).places index (rw (length_view b) h)

-- the symbol with this index stands at place k
pub record SymbolAt (b : Book) (index k : ℕ) : Type 0 where
  pub entry : Entry
  pub at : entry_at b k ≡ some entry
  pub there : symbol_in index (view b) ≡ some (symbol_of entry (orders_at b k) (record_at b k))

pub symbol_at : (b : Book) (index k : ℕ) → k ≡ place_in index (view b) → k < symbols → SymbolAt b index k
unfolding found_in place_of
symbol_at b index k e h =
    let p : has_index entry_of index (get_or (view b).places k none) ≡ true = (rw e (first_passes (has_index entry_of index) (view b).places none (rw (length_view b, ← e) h))) in
    go (entry_at b k) refl (sym (ap (has_index entry_of index) (view_at b k h)) ∙ p)
  where
    go : (x : Option Entry) → entry_at b k ≡ x → has_index entry_of index (seen (entry_at b k) (orders_at b k) (record_at b k)) ≡ true → SymbolAt b index k
    go none q p = absurd (false≢true (sym (ap (λ (x : Option Entry). has_index entry_of index (seen x (orders_at b k) (record_at b k))) q) ∙ p))
    go (some x) q p = record { entry = x; at = q; there = rw (← e) (view_at b k h ∙ ap (λ (y : Option Entry). seen y (orders_at b k) (record_at b k)) q) }

-- ---- r is b but for place k
pub record ButAt (k : ℕ) (b r : Book) : Type 0 where
  pub market : r.market ≡ b.market
  pub entries : (m : ℕ) → (m ≡ k → ⊥) → entry_at r m ≡ entry_at b m
  pub orders : (m : ℕ) → (m ≡ k → ⊥) → orders_at r m ≡ orders_at b m
  pub trades : (m : ℕ) → (m ≡ k → ⊥) → record_at r m ≡ record_at b m

-- and each room of it is sound
pub record SoundRooms (r : Book) : Type 0 where
  pub names : symbols-room.Wf r.symbols
  pub orders : orders-room.Wf r.orders
  pub trades : record-room.Wf r.trades

module _ (b r : Book) (k : ℕ) (in_range : k < symbols) (apart : ButAt k b r) where
  view_but_one : view r ≡ with_places (view b) (set (view b).places k (seen (entry_at r k) (orders_at r k) (record_at r k)))
  unfolding view
  view_but_one = λ i. record { market = market_of (apart.market i); places = same_but_one i }
    where
      same_but_one : (view r).places ≡ set (view b).places k (seen (entry_at r k) (orders_at r k) (record_at r k))
      same_but_one = tabulate_but_one symbols _ _ k in_range (λ m h ne. rw (apart.entries m ne, apart.orders m ne, apart.trades m ne))

  module _ (e : Entry) (at : entry_at r k ≡ some e) where
    not_none : {A : Type 0} → entry_at r k ≡ none → A
    not_none n = absurd (false≢true (ap is_vacant (sym at ∙ n)))

    wf_but_one : Wf b → SoundRooms r → Wf r
    wf_but_one w s = record {
      names = s.names;
      orders = s.orders;
      trades = s.trades;
      has_no_orders = λ m h n. orders_empty m h n (eqb m k) refl;
      no_record = λ m h n. record_empty m h n (eqb m k) refl;
    }
      where
        orders_empty : (m : ℕ) → m < symbols → entry_at r m ≡ none → (t : Bool) → eqb m k ≡ t → orders_at r m ≡ []
        orders_empty m h n true q = not_none (rw (eqb-true m k q) at n)
        orders_empty m h n false q = let ne = eqb-false m k q in apart.orders m ne ∙ w.has_no_orders m h (sym (apart.entries m ne) ∙ n)

        record_empty : (m : ℕ) → m < symbols → entry_at r m ≡ none → (t : Bool) → eqb m k ≡ t → record_at r m ≡ nothing_kept
        record_empty m h n true q = not_none (rw (eqb-true m k q) at n)
        record_empty m h n false q = let ne = eqb-false m k q in apart.trades m ne ∙ w.no_record m h (sym (apart.entries m ne) ∙ n)

    -- so a store at place k, with the symbol that the rule says, obeys the rule
    pub obeys_at : (x : Meeting) → Wf b → SoundRooms r → symbol_of e (orders_at r k) (record_at r k) ≡ x.symbol → Obeys (put (view b) k x) r x.answer
    obeys_at x w s q = record {
      wf = wf_but_one w s;
      next_view = view_but_one ∙ ap (λ (y : Option Symbol). with_places (view b) (set (view b).places k y)) (ap (λ (y : Option Entry). seen y (orders_at r k) (record_at r k)) at ∙ ap some q);
      answer = refl;
    }

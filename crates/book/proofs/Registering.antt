-- The symbols take the new one in or refuse it by the rows of the rule; a new symbol takes an empty place, which Wf says holds nothing.
use Rattle.std.specs.Prelude.{Result, Ok, Err}
use mathlib.Core.Bool.{Bool, true, false, false≢true}
use mathlib.Core.List.{List}
use mathlib.Core.Option.{Option, none, some}
use mathlib.Core.Path.{◌≡◌, refl, sym, ap, ◌∙◌}
use Prim.Native.Nat.{ℕ, ◌<◌}
use borrow.Author.Tests.{ltb-true}
use lib.Dec.{ltb}
use lib.ListN.{get_or, set}
use lib.Seq.{get_or-set_same, get_or-set_other}
use Rattle.markets.specs.Numbers.{market_of}
use Rattle.places.specs.Places.{symbols, among, tabulate}
use Rattle.places.proofs.Searching.{first_passes}
use Rattle.symbols.specs.State.{Entry, entries, itself, is_vacant, place_of, vacancy_of}
use Rattle.symbols.specs.Registering.{bad, new_entry, registered_if, registered}
use Rattle.symbols.specs.Promises.{after, Registers}
use Rattle.symbols.specs.Answers.{answered, register_number}
use Rattle.symbols.specs.declared.Symbols.{Symbols}
use Rattle.symbols.specs.declared.registering.RegisterError.{RegisterError}
use Rattle.symbols.proofs.Entries.{length_entries}
use Rattle.symbols.proofs.Finding.{is_none}
use Rattle.book.specs.State.{with_places, entry_at, orders_at, record_at, symbol_of, view, Wf}
use Rattle.book.specs.Registering.{started, placing, register_of}
use Rattle.book.specs.Promises.{unchanging, Obeys, Steps}
use Rattle.book.specs.declared.Book.{Book}
use Rattle.book.proofs.Views.{same_market, seen, place_is, vacancy_is, obeys_at}

-- the state with other symbols
abbrev pub with : Book → Symbols → Book
with b s = record { symbols = s; orders = b.orders; trades = b.trades; market = b.market }

module _ (b : Book) (index : ℕ) (name : List ℕ) (scale : ℕ) (r : Result Symbols RegisterError) (p : Registers b.symbols index name scale r) where
  abbrev next : Symbols
  next = after b.symbols r

  abbrev answer : ℕ
  answer = answered register_number r

  abbrev es : List (Option Entry)
  es = entries b.symbols

  abbrev newcomer : Entry
  newcomer = new_entry index name scale

  same_view : entries next ≡ es → view (with b next) ≡ view b
  unfolding view
  same_view n = ap (λ (l : List (Option Entry)). record { market = market_of b.market; places = tabulate symbols (λ k. seen (get_or l k none) (orders_at b k) (record_at b k)) }) n

  module _ (w : Wf b) where
    stays : (a : ℕ) → entries next ≡ es → answer ≡ a → Obeys (record { view = view b; answer = a }) (with b next) answer
    stays a n e = record {
      wf = record {
        names = p.wf w.names;
        orders = w.orders;
        trades = w.trades;
        has_no_orders = λ k h z. w.has_no_orders k h (sym (ap (λ (l : List (Option Entry)). get_or l k none) n) ∙ z);
        no_record = λ k h z. w.no_record k h (sym (ap (λ (l : List (Option Entry)). get_or l k none) n) ∙ z);
      };
      next_view = same_view n;
      answer = e;
    }

    module _ (h : vacancy_of es < symbols) where
      vacant_there : entry_at b (vacancy_of es) ≡ none
      unfolding vacancy_of
      vacant_there = is_none _ (first_passes is_vacant es none (rw (length_entries b.symbols) h))

      starts : entries next ≡ set es (vacancy_of es) (some newcomer) → answer ≡ 0
          → Obeys (record { view = with_places (view b) (set (view b).places (vacancy_of es) (some (started newcomer))); answer = 0 }) (with b next) answer
      starts n e = rw e (obeys_at b (with b next) (vacancy_of es) h
          (record {
            market = refl;
            entries = λ m ne. ap (λ (l : List (Option Entry)). get_or l m none) n ∙ get_or-set_other es (vacancy_of es) m _ none ne;
            orders = λ m ne. refl;
            trades = λ m ne. refl;
          })
          newcomer (ap (λ (l : List (Option Entry)). get_or l (vacancy_of es) none) n ∙ get_or-set_same es (vacancy_of es) _ none (rw (length_entries b.symbols) h))
          (record { symbol = started newcomer; answer = 0 }) w
          (record { names = p.wf w.names; orders = w.orders; trades = w.trades })
          (λ i. symbol_of newcomer (w.has_no_orders (vacancy_of es) h vacant_there i) (w.no_record (vacancy_of es) h vacant_there i)))

    -- the tests of the rule are the same over the entries and over the view
    by_tests : (t u v : Bool) → ltb (vacancy_of es) symbols ≡ v → entries next ≡ (registered_if t u v es newcomer).view
        → answer ≡ (registered_if t u v es newcomer).answer
        → Obeys (placing (view b) (registered_if t u v (view b).places (started newcomer))) (with b next) answer
    by_tests true u v q n a = stays 13 n a
    by_tests false true v q n a = stays 11 n a
    by_tests false false false q n a = stays 12 n a
    by_tests false false true q n a = rw (← (vacancy_is b)) (starts (ltb-true _ _ q) n a)

    registers : Obeys (register_of (view b) index name scale) (with b next) answer
    unfolding registered
    registers = rw (← (place_is b index), ← (vacancy_is b)) (by_tests (bad name scale) (ltb (place_of itself index es) symbols) (ltb (vacancy_of es) symbols) refl p.next p.answer)

  kept : (x : Result Symbols RegisterError) → unchanging (answered register_number x) ≡ true → with b (after b.symbols x) ≡ b
  unfolding among
  kept (Ok s) u = absurd (false≢true u)
  kept (Err e) u = refl

  pub registering_steps : Steps b (register_of (view b) index name scale) (record { book = with b next; answer = answer })
  registering_steps = record { market = same_market b (with b next) refl; kept = kept r; obeys = registers }

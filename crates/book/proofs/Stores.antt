-- What came of a message at place k obeys its rule: nothing else is touched, and what is kept and live there is the rule's.
use Rattle.std.specs.Prelude.{Result, Ok, Err, is_err}
use mathlib.Core.Bool.{false, true≢false, false≢true}
use mathlib.Core.List.{List}
use mathlib.Core.Logic.{◌≢◌}
use mathlib.Core.Option.{Option, none, some, map}
use mathlib.Core.Path.{◌≡◌, refl, sym, ap, ◌∙◌}
use Prim.Native.Nat.{ℕ, ◌<◌}
use native.Mathlib.Omega.{arith}
use borrow.Author.Tests.{lt-ltb}
use lib.ListN.{get_or}
use lib.Seq.{get_or-set_same, get_or-set_other}
use Rattle.feed.specs.Reader.{Fit, fits, misfit, no_room, made_stale, ruled}
use Rattle.feed.specs.Book.{fitted}
use Rattle.places.specs.Places.{symbols, among}
use Rattle.symbols.specs.State.{numbers, Entry, entries}
use Rattle.symbols.specs.Turns.{standing_at, staled, counted, counted_if, restarted}
use Rattle.symbols.specs.Promises.{standing_by, altered, Alters}
use Rattle.symbols.specs.declared.Standing.{Standing}
use Rattle.symbols.specs.declared.Symbols.{Symbols}
use Rattle.symbols.proofs.Entries.{length_entries}
use Rattle.orders.specs.Rules.{apply_to}
use Rattle.orders.specs.Promises as changing
use Rattle.orders.specs.Promises.{unfit_number, fit_number, fit_of}
use Rattle.orders.specs.declared.Order.{Order}
use Rattle.orders.specs.declared.Orders.{Orders}
use Rattle.orders.specs.declared.Change.{Change}
use Rattle.orders.specs.declared.Unfit.{Unfit}
use Rattle.record.specs.Promises as dealing
use Rattle.record.specs.declared.Deal.{Deal}
use Rattle.record.specs.Promises.{Dealt}
use Rattle.book.specs.State.{entry_at, orders_at, record_at, symbol_of, view, Wf}
use Rattle.book.specs.Step.{symbol_made_stale, enacted, cleared, put}
use Rattle.book.specs.Promises.{unchanging, Obeys, MakesStale, Enacts}
use Rattle.book.specs.declared.Book.{Book}
use Rattle.book.specs.declared.Done.{Done}
use Rattle.book.proofs.Views.{same_market, obeys_at}

-- ---- an entry altered: its own, and no other
module _ (b r : Symbols) (k : ℕ) (f : Standing → Standing) (p : Alters b k f r) where
  own_entry : k < symbols → (e : Entry) → get_or (entries b) k none ≡ some e → get_or (entries r) k none ≡ some (standing_at (f e.standing) e)
  unfolding altered
  own_entry h e at = ap (λ (l : List (Option Entry)). get_or l k none) p.next ∙ get_or-set_same (entries b) k _ none (rw (length_entries b) h) ∙ ap (map (standing_by f)) at

  other_entry : (m : ℕ) → (m ≡ k → ⊥) → get_or (entries r) m none ≡ get_or (entries b) m none
  unfolding altered
  other_entry m ne = ap (λ (l : List (Option Entry)). get_or l m none) p.next ∙ get_or-set_other (entries b) k m _ none ne

module _ (b : Book) (k : ℕ) (in_range : k < symbols) (e : Entry) (at : entry_at b k ≡ some e) (w : Wf b) where
  -- ---- refused, and the symbol stale
  pub stales : (a : ℕ) (r : Done) → MakesStale b k a r
      → Obeys (put (view b) k (record { symbol = symbol_made_stale (symbol_of e (orders_at b k) (record_at b k)); answer = a })) r.book a
  stales a r p = obeys_at b r.book k in_range
      (record { market = p.market; entries = other_entry _ _ k staled p.symbols; orders = λ m ne. rw p.orders; trades = λ m ne. rw p.trades })
      _ (own_entry _ _ k staled p.symbols in_range e at)
      (record { symbol = symbol_made_stale (symbol_of e (orders_at b k) (record_at b k)); answer = a }) w
      (record { names = p.symbols.wf w.names; orders = rw p.orders w.orders; trades = rw p.trades w.trades })
      (rw (p.orders, p.trades))

  -- ---- applied: these orders and this record, and the number counted
  applies : (a : Orders) (os : List Order) (x : Result (Unit {0}) Unfit) → changing.Obeys b.orders k (fits os) a x → (d : Deal) (t : Dealt) → dealing.Obeys b.trades k d t
      → e.standing.expected < numbers → (s : Symbols) → Alters b.symbols k (counted_if t.lost) s
      → Obeys (put (view b) k (enacted (symbol_of e (orders_at b k) (record_at b k)) d (ruled false false false (fits os)))) (record { symbols = s; orders = a; trades = t.trades; market = b.market }) 0
  unfolding enacted ruled fitted
  applies a os x p d t q n s c =
      obeys_at b (record { symbols = s; orders = a; trades = t.trades; market = b.market }) k in_range
      (record { market = refl; entries = other_entry _ _ k (counted_if t.lost) c; orders = p.others; trades = q.others })
      _ (own_entry _ _ k (counted_if t.lost) c in_range e at)
      (enacted (symbol_of e (orders_at b k) (record_at b k)) d (ruled false false false (fits os))) w
      (record { names = c.wf w.names; orders = p.wf; trades = q.wf })
      (rw (lt-ltb e.standing.expected numbers n) (λ i. symbol_of (standing_at (counted (q.lost i) e.standing) e) (p.own i) (q.own i)))

  -- ---- symbol clear
  pub clears : (next : ℕ) (s : Symbols) → Alters b.symbols k (restarted next) s → (os : Orders) → changing.Clears b.orders k os
      → Obeys (put (view b) k (cleared (symbol_of e (orders_at b k) (record_at b k)) next)) (record { symbols = s; orders = os; trades = b.trades; market = b.market }) 0
  clears next s a os c = obeys_at b (record { symbols = s; orders = os; trades = b.trades; market = b.market }) k in_range
      (record { market = refl; entries = other_entry _ _ k (restarted next) a; orders = c.others; trades = λ m ne. refl })
      _ (own_entry _ _ k (restarted next) a in_range e at)
      (cleared (symbol_of e (orders_at b k) (record_at b k)) next) w
      (record { names = a.wf w.names; orders = c.wf w.orders; trades = w.trades })
      (λ i. symbol_of (standing_at (restarted next e.standing) e) (c.own in_range i) (record_at b k))

-- ---- whether the change fits decides: by the rule its number is the answer
refused_fit : (x : Fit (List Order)) (e : Unfit) → ◌≡◌ {A = Result (Unit {0}) Unfit} (Err e) (fit_of x) → ruled false false false x ≡ made_stale (unfit_number e)
unfolding ruled
refused_fit (fits os) e is = absurd (true≢false (ap is_err is))
refused_fit misfit e is = ap made_stale (ap fit_number (sym is))
refused_fit no_room e is = ap made_stale (ap fit_number (sym is))

changes_something : (e : Unfit) → unchanging (unfit_number e) ≡ false
unfolding among
changes_something Unfit.Misfit = refl
changes_something Unfit.NoRoom = refl

record Fitted (x : Fit (List Order)) : Type 0 where
  pub after : List Order
  pub fit : x ≡ fits after

fit_fits : (x : Fit (List Order)) → ◌≡◌ {A = Result (Unit {0}) Unfit} (Ok tt) (fit_of x) → Fitted x
fit_fits (fits os) e = record { after = os; fit = refl }
fit_fits misfit e = absurd (false≢true (ap is_err e))
fit_fits no_room e = absurd (false≢true (ap is_err e))

not_done : (e : Unfit) → unfit_number e ≢ 0
not_done Unfit.Misfit z = omega (arith, z)
not_done Unfit.NoRoom z = omega (arith, z)

-- ---- so the message is applied, or its symbol becomes stale
module _ (b : Book) (k : ℕ) (c : Change) (d : Deal) (o : Orders) where
  pub enacts_refused : (e : Unfit) → changing.Changes b.orders k c o (Err e) → (s : Symbols) → Alters b.symbols k staled s
      → Enacts b k c d (record { book = record { symbols = s; orders = o; trades = b.trades; market = b.market }; answer = unfit_number e })
  unfolding enacted
  enacts_refused e p s a =
      let r : Done = record { book = record { symbols = s; orders = o; trades = b.trades; market = b.market }; answer = unfit_number e } in
      record {
        market = same_market b r.book refl;
        changes = changes_something e;
        obeys = λ t w. rw (refused_fit (apply_to (orders_at b k) c) e (p.obeys t.place w.orders).fit)
            (stales b k t.place t.entry t.there w (unfit_number e) r (record { symbols = a; orders = p.kept (not_done e); trades = refl; market = refl; answer = refl }));
      }

  -- orders that fit, a record dealt with and a number counted, each as its room's rule says
  pub enacts_done : k < symbols → (Wf b → changing.Obeys b.orders k (apply_to (orders_at b k) c) o (Ok tt)) → (y : Dealt) → (Wf b → dealing.Obeys b.trades k d y)
      → (s : Symbols) → (Wf b → Alters b.symbols k (counted_if y.lost) s)
      → Enacts b k c d (record { book = record { symbols = s; orders = o; trades = y.trades; market = b.market }; answer = 0 })
  unfolding among
  enacts_done h changed y dealt s counted = record {
    market = same_market b (record { symbols = s; orders = o; trades = y.trades; market = b.market }) refl;
    changes = refl;
    obeys = λ t w.
        let x = changed w in
        let g = fit_fits (apply_to (orders_at b k) c) x.fit in
        rw g.fit (applies b k h t.entry t.there w o g.after (Ok tt) (rw g.fit at x) d y (dealt w) t.expected s (counted w));
  }

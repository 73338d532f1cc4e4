-- What is live lies in a symbol's places, a number at most once.
use mathlib.Core.Bool.{true}
use mathlib.Core.List.{Memᴰ}
use mathlib.Core.Option.{Option, some}
use mathlib.Core.Path.{◌≡◌, refl, sym, ◌∙◌, subst}
use Prim.Native.Nat.{ℕ, ◌<◌, ◌≤◌}
use lib.Dec.{eqb}
use lib.ListN.{length}
use Rattle.places.specs.Places.{symbols, count}
use Rattle.symbols.proofs.Finding.{place_within}
use Rattle.orders.specs.State.{orders_each, order_number}
use Rattle.orders.specs.declared.Order.{Order}
use Rattle.orders.proofs.Holding as orders-room
use Rattle.orders.proofs.Holding.{live_within}
use Rattle.record.specs.State.{trades_each, crosses_each, trade_number, cross_number}
use Rattle.record.proofs.Holding as record-room
use Rattle.book.specs.State.{Symbol, symbol_of, orders_at, record_at, view, entry_of, place_in, symbol_in, Wf}
use Rattle.book.specs.declared.Book.{Book}
use Rattle.book.proofs.Views.{length_view, SymbolAt, symbol_at}

module _ (b : Book) (index : ℕ) (s : Symbol) (e : symbol_in index (view b) ≡ some s) where
  there : place_in index (view b) < symbols
  there = rw (length_view b) at (place_within entry_of (view b).places index s e)

  abbrev at_place : SymbolAt b index (place_in index (view b))
  at_place = symbol_at b index (place_in index (view b)) refl there

  is : s ≡ symbol_of at_place.entry (orders_at b (place_in index (view b))) (record_at b (place_in index (view b)))
  is = let same : ◌≡◌ {A = Option Symbol} (some s) (some (symbol_of at_place.entry (orders_at b (place_in index (view b))) (record_at b (place_in index (view b))))) = sym e ∙ at_place.there in cc

  -- a symbol holds no more live orders, trades and crosses than it has places for them
  pub orders_within : length s.orders ≤ orders_each
  orders_within = rw is (live_within b.orders (place_in index (view b)))

  pub trades_within : length s.kept.trades ≤ trades_each
  trades_within = rw is (record-room.trades_within b.trades (place_in index (view b)))

  pub crosses_within : length s.kept.crosses ≤ crosses_each
  crosses_within = rw is (record-room.crosses_within b.trades (place_in index (view b)))

  -- and what it holds as live is live
  pub all_live : (o : Order) → Memᴰ o s.orders → o.live ≡ true
  all_live o m = orders-room.all_live b.orders (place_in index (view b)) o (subst (λ (t : Symbol). Memᴰ o t.orders) is m)

  module _ (w : Wf b) where
    -- at most one live order of a number, one kept trade and one kept cross
    pub one_live : (n : ℕ) → count (λ o. eqb (order_number o) n) s.orders ≤ 1
    one_live n = rw is (orders-room.one_live b.orders (place_in index (view b)) w.orders there n)

    pub one_kept : (n : ℕ) → count (λ t. eqb (trade_number t) n) s.kept.trades ≤ 1
    one_kept n = rw is (record-room.one_trade b.trades (place_in index (view b)) w.trades there n)

    pub one_cross : (n : ℕ) → count (λ x. eqb (cross_number x) n) s.kept.crosses ≤ 1
    one_cross n = rw is (record-room.one_cross b.trades (place_in index (view b)) w.trades there n)

-- In a new state nobody is registered, no order is live and no trade is kept.
use mathlib.Core.Option.{none}
use mathlib.Core.Path.{◌≡◌, refl}
use Prim.Native.Nat.{ℕ}
use lib.ListN.{get_or}
use Rattle.markets.specs.Numbers.{market_number}
use Rattle.markets.proofs.Names.{market_kept}
use Rattle.markets.specs.declared.Market.{Market}
use Rattle.places.specs.Places.{symbols, tabulate, first_where}
use Rattle.symbols.specs.State.{place_of, found_in, nobody}
use Rattle.symbols.proofs.Entries.{nobody_sound, nobody_there}
use Rattle.orders.specs.State.{live_at, no_orders}
use Rattle.orders.proofs.Holding as orders-held
use Rattle.orders.proofs.Holding.{no_orders_sound}
use Rattle.record.specs.State.{kept_at, no_trades}
use Rattle.record.proofs.Holding as record-held
use Rattle.record.proofs.Holding.{no_trades_sound}
use Rattle.book.specs.State.{view, symbol_in, new_view, Fresh}
use Rattle.book.specs.declared.Book.{Book}
use Rattle.book.proofs.Views.{seen}

abbrev new : Market → Book
new m = record { symbols = nobody; orders = no_orders; trades = no_trades; market = market_number m }

nothing_seen : (m : Market) → view (new m) ≡ new_view m
unfolding view tabulate
nothing_seen m = λ i. record { market = market_kept m i; places = tabulate symbols (λ k. seen (get_or (nobody_there i) k none) (live_at no_orders k) (kept_at no_trades k)) }

pub fresh : (m : Market) → Fresh m (new m)
fresh m = record {
  market = refl;
  names = refl;
  orders = refl;
  trades = refl;
  wf = record { names = nobody_sound; orders = no_orders_sound; trades = no_trades_sound; has_no_orders = λ k h n. orders-held.new_has_none k; no_record = λ k h n. record-held.new_has_none k };
  view_is_new = nothing_seen m;
}

pub new_unregistered : (m : Market) (b : Book) → Fresh m b → (index : ℕ) → symbol_in index (view b) ≡ none
unfolding found_in place_of first_where
new_unregistered m b f index = rw f.view_is_new

-- What a book holds, and the view of it that every promise speaks of: document 01, "The book" and "The trade record".
use Rattle.std.specs.Prelude.{List, [], ◌≡◌, ℕ, ◌<◌, get_or, replicate}
use Rattle.std.proofs.Math.Option.{Option, none, some, map}
use Rattle.markets.specs.Numbers.{market_number, market_of}
use Rattle.markets.specs.declared.Market.{Market}
use Rattle.places.specs.Places.{symbols, tabulate}
use Rattle.symbols.specs.State as symbols-room
use Rattle.symbols.specs.State.{Entry, entries, place_of, found_in, nobody}
use Rattle.orders.specs.State as orders-room
use Rattle.orders.specs.State.{live_at, no_orders}
use Rattle.orders.specs.declared.Order.{Order}
use Rattle.record.specs.State as record-room
use Rattle.record.specs.State.{Kept, nothing_kept, kept_at, no_trades}
use Rattle.record.specs.declared.Cross.{Cross}
use Rattle.book.specs.declared.Book.{Book}

-- ---- what is kept of a symbol: its entry, its live orders in the order of their numbers, its kept trades and crosses likewise
pub record Symbol : Type 0 where
  pub entry : Entry
  pub orders : List Order
  pub kept : Kept

-- ---- the view: the market that the state was made for, and eight places of registration, each empty or with its symbol
pub record View : Type 0 where
  pub market : Market
  pub places : List (Option Symbol)

-- the same market with these places
abbrev pub with_places : View → List (Option Symbol) → View
with_places v ps = record { market = v.market; places = ps }

-- what a call makes of it: the next view, and the answer
pub record Next : Type 0 where
  pub view : View
  pub answer : ℕ

abbrev pub entry_at : Book → ℕ → Option Entry
entry_at b k = get_or (entries b.symbols) k none

abbrev pub orders_at : Book → ℕ → List Order
orders_at b k = live_at b.orders k

abbrev pub record_at : Book → ℕ → Kept
record_at b k = kept_at b.trades k

abbrev pub symbol_of : Entry → List Order → Kept → Symbol
symbol_of e os x = record { entry = e; orders = os; kept = x }

unfoldable pub view : Book → View
view b = record { market = market_of b.market; places = tabulate symbols (λ k. map (λ e. symbol_of e (orders_at b k) (record_at b k)) (entry_at b k)) }

-- ---- the symbol with an index, and where it stands
abbrev pub entry_of : Symbol → Entry
entry_of s = s.entry

abbrev pub place_in : ℕ → View → ℕ
place_in index v = place_of entry_of index v.places

abbrev pub symbol_in : ℕ → View → Option Symbol
symbol_in index v = found_in entry_of index v.places

-- and its live orders: none if it is not registered
abbrev pub live_of : Option Symbol → List Order
live_of none = []
live_of (some s) = s.orders

abbrev pub live_in : ℕ → View → List Order
live_in index v = live_of (symbol_in index v)

-- and its kept crosses
abbrev pub crosses_of : Option Symbol → List Cross
crosses_of none = []
crosses_of (some s) = s.kept.crosses

abbrev pub crosses_in : ℕ → View → List Cross
crosses_in index v = crosses_of (symbol_in index v)

-- ---- what holds of every state: each room is sound, and a place with no symbol holds nothing
pub record Wf (b : Book) : Type 0 where
  pub names : symbols-room.Wf b.symbols
  pub orders : orders-room.Wf b.orders
  pub trades : record-room.Wf b.trades
  pub has_no_orders : (k : ℕ) → k < symbols → entry_at b k ≡ none → orders_at b k ≡ []
  pub no_record : (k : ℕ) → k < symbols → entry_at b k ≡ none → record_at b k ≡ nothing_kept

-- ---- the new state of a market: every place empty
abbrev pub new_view : Market → View
new_view m = record { market = m; places = replicate symbols none }

pub record Fresh (m : Market) (r : Book) : Type 0 where
  pub market : r.market ≡ market_number m
  pub names : r.symbols ≡ nobody
  pub orders : r.orders ≡ no_orders
  pub trades : r.trades ≡ no_trades
  pub wf : Wf r
  pub view_is_new : view r ≡ new_view m

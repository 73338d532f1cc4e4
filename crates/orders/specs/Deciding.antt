-- Decide, then store: the contracts of searches, of decisions on small values and of stores. No rule of document 01 stands here, and nothing here need be believed.
use Rattle.std.specs.Prelude.{true, false, cond, List, ◌≡◌, ℕ, ◌*◌, ◌<◌, ltb, get_or, Option, Some, None, Result, Ok, Err}
use Rattle.std.proofs.Math.Option.{none}
use Rattle.feed.specs.Reader.{Fit, fits, misfit, no_room}
use Rattle.places.specs.Places.{look, in_order, Shelf, FoundAt, FreeAt, placed, placed_in, Lands, emptied}
use Rattle.places.specs.Homes.{free_in, spans_after, Mirrored, Near}
use Rattle.orders.specs.State.{orders_each, no_order, order_number, order_live, shelf_at}
use Rattle.orders.specs.declared.Order.{Order}
use Rattle.orders.specs.declared.Orders.{Orders}
use Rattle.orders.specs.Rules.{apply_to}
use Rattle.orders.specs.declared.Change.{Change}
use Rattle.orders.specs.declared.Unfit.{Unfit}
use Rattle.orders.specs.declared.search.Found.{Found}
use Rattle.orders.specs.declared.rules.Verdict.{Verdict}

-- ---- a symbol's places, and what a search in them promises
abbrev pub OrderShelf : List Order → Type 0
OrderShelf l = Shelf order_number order_live orders_each l

abbrev pub live_orders : List Order → List Order
live_orders l = in_order order_number order_live l

abbrev pub OrderAt : ℕ → List Order → ℕ → Type 0
OrderAt n l i = FoundAt order_number order_live no_order orders_each n l i

abbrev pub OrderRoom : List Order → ℕ → Type 0
OrderRoom l i = FreeAt order_live no_order orders_each l i

-- symbol k can be searched, whatever the others are: none of its numbers is live twice, what searches read is that of the orders, and each of its live orders lies where they look for it
pub record Searchable (b : Orders) (k : ℕ) : Type 0 where
  pub whole : OrderShelf (shelf_at b k)
  pub mirrored : Mirrored order_number order_live b.places b.numbers b.lives
  pub near : Near b.numbers b.lives b.spans (k * orders_each) orders_each

-- a place that was found, or one past the last
abbrev pub place_of : Option ℕ → ℕ
place_of None = orders_each
place_of (Some i) = i

-- a live order with its place; what is not live doesn't fit
abbrev pub Finds : ℕ → List Order → Result Found Unfit → Type 0
Finds n l (Ok x) = (x.place < orders_each) × OrderAt n l x.place × (x.order ≡ get_or l x.place no_order)
Finds n l (Err e) = (e ≡ Unfit.Misfit) × OrderAt n l orders_each

-- the place of symbol k that has room for a number
abbrev pub room_in : Orders → ℕ → ℕ → ℕ
room_in b k = free_in b.lives (k * orders_each) orders_each

-- an order whose number was not live goes to the place that has room for that number, if there is one
abbrev pub TakesRoom : (ℕ → ℕ) → List Order → ℕ → Order → Type 0
TakesRoom room_for l place o = o.live ≡ true → look order_number o.number (live_orders l) ≡ none → room_for o.number < orders_each → place ≡ room_for o.number

-- ---- a verdict is what the rule says of the live orders: the order goes to its place, which is the one with room for it where it is new; before it another place may be emptied
pub data Decides (l : List Order) (room_for : ℕ → ℕ) : Result Verdict Unfit → Fit (List Order) → Type 0 where
  stays : Decides l room_for (Ok Verdict.Keeps) (fits (live_orders l))
  lands : {place : ℕ} {o : Order} {os : List Order} → Lands order_number order_live orders_each l place o os → TakesRoom room_for l place o → Decides l room_for (Ok (Verdict.Lands place o)) (fits os)
  moves : {gone place : ℕ} {o : Order} {rest os : List Order} → Lands order_number order_live orders_each l gone no_order rest
      → Lands order_number order_live orders_each (placed orders_each l gone no_order) place o os → TakesRoom room_for l place o → Decides l room_for (Ok (Verdict.Moves gone place o)) (fits os)
  misfits : Decides l room_for (Err Unfit.Misfit) misfit
  crowds : Decides l room_for (Err Unfit.NoRoom) no_room

-- where the symbol can be searched
abbrev pub Judges : Orders → ℕ → Change → Result Verdict Unfit → Type 0
Judges b k c r = Searchable b k → Decides (shelf_at b k) (room_in b k) r (apply_to (live_orders (shelf_at b k)) c)

-- ---- the stores
-- an order at place i of symbol k: its number and mark beside it, and the spans follow
abbrev pub with_order : Orders → ℕ → ℕ → Order → Orders
with_order b k i o = record {
  places = placed_in orders_each k b.places i o;
  numbers = placed_in orders_each k b.numbers i o.number;
  lives = placed_in orders_each k b.lives i o.live;
  spans = cond (ltb i orders_each) (spans_after b.numbers b.lives b.spans (k * orders_each) orders_each i o.number o.live) b.spans;
}

-- a verdict stored
abbrev pub settled_by : Orders → ℕ → Verdict → Orders
settled_by b k Verdict.Keeps = b
settled_by b k (Verdict.Lands place o) = with_order b k place o
settled_by b k (Verdict.Moves gone place o) = with_order (with_order b k gone no_order) k place o

-- where it fits
abbrev pub settled_at : Orders → ℕ → Result Verdict Unfit → Orders
settled_at b k (Ok v) = settled_by b k v
settled_at b k (Err e) = b

-- whether it fits, without the places
abbrev pub fit_by : Result Verdict Unfit → Result (Unit {0}) Unfit
fit_by (Ok v) = Ok tt
fit_by (Err e) = Err e

-- the first j places of a symbol emptied
abbrev pub emptied_to : Orders → ℕ → ℕ → Orders
emptied_to b k j = record {
  places = emptied orders_each k no_order b.places j;
  numbers = emptied orders_each k 0 b.numbers j;
  lives = emptied orders_each k false b.lives j;
  spans = emptied orders_each k 0 b.spans j;
}

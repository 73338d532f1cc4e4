-- The live orders of eight symbols: document 01, "The book".
use Rattle.std.specs.Prelude.{Bool, false, List, ◌≡◌, ℕ, ◌*◌, ◌<◌, length, replicate}
use Rattle.places.specs.Places.{symbols, shelf, on_shelf, Singles}
use Rattle.places.specs.Homes.{Mirrored, Near}
use Rattle.orders.specs.declared.Order.{Order}
use Rattle.orders.specs.declared.Orders.{Orders}

-- each symbol's own places
abbrev pub orders_each : ℕ
orders_each = 256

abbrev pub no_order : Order
no_order = record { live = false; buy = false; number = 0; price = 0; volume = 0 }

abbrev pub order_number : Order → ℕ
order_number o = o.number

abbrev pub order_live : Order → Bool
order_live o = o.live

abbrev pub shelf_at : Orders → ℕ → List Order
shelf_at b k = shelf orders_each k b.places

-- what every promise speaks of: the live orders of the symbol at place k, in the order of their numbers
unfoldable pub live_at : Orders → ℕ → List Order
live_at b k = on_shelf order_number order_live orders_each b.places k

-- how long the arrays are that nothing else tells of
pub record Sized (b : Orders) : Type 0 where
  pub places : length b.places ≡ symbols * orders_each
  pub spans : length b.spans ≡ symbols * orders_each

-- what holds of every state: every symbol has its places; no number is live twice in a symbol; searches read the orders' own numbers and marks; each live order lies within the span of
-- its home
pub record Wf (b : Orders) : Type 0 where
  pub sized : Sized b
  pub singles : Singles order_number order_live orders_each b.places
  pub mirrored : Mirrored order_number order_live b.places b.numbers b.lives
  pub near : (k : ℕ) → k < symbols → Near b.numbers b.lives b.spans (k * orders_each) orders_each

-- the new orders: every place empty
abbrev pub no_orders : Orders
no_orders = record {
  places = replicate (symbols * orders_each) no_order;
  numbers = replicate (symbols * orders_each) 0;
  lives = replicate (symbols * orders_each) false;
  spans = replicate (symbols * orders_each) 0;
}

-- Two stores among all places, with what searches read mirrored after them: the same as a place emptied and one filled. No rule of document 01 stands here, and nothing here need be believed.
use Rattle.std.specs.Prelude.{Bool, false, cond, List, ◌≡◌, ℕ, ◌*◌, ◌<◌, ◌≤◌, ltb, get_or, set}
use Rattle.places.specs.Places.{symbols, placed_in, spot_in}
use Rattle.places.specs.Homes.{spans_after}
use Rattle.orders.specs.State.{orders_each, no_order}
use Rattle.orders.specs.declared.Order.{Order}
use Rattle.orders.specs.declared.Orders.{Orders}

-- what searches read: numbers, marks and spans
pub record Beside : Type 0 where
  pub numbers : List ℕ
  pub lives : List Bool
  pub spans : List ℕ

abbrev pub besides : Orders → Beside
besides b = record { numbers = b.numbers; lives = b.lives; spans = b.spans }

-- that with a number and a mark at place i of symbol k, and the spans that follow
abbrev pub beside_with : Beside → ℕ → ℕ → ℕ → Bool → Beside
beside_with b k i number live = record {
  numbers = placed_in orders_each k b.numbers i number;
  lives = placed_in orders_each k b.lives i live;
  spans = cond (ltb i orders_each) (spans_after b.numbers b.lives b.spans (k * orders_each) orders_each i number live) b.spans;
}

-- one place emptied, then one filled
pub record Mirrors (b : Beside) (k gone place : ℕ) (o : Order) (r : Beside) : Type 0 where
  pub inside : k < symbols → r ≡ beside_with (beside_with b k gone 0 false) k place o.number o.live
  pub outside : symbols ≤ k → r ≡ b

-- two stores among all places; the places that what searches read follows
pub record Landing : Type 0 where
  pub emptied : ℕ
  pub filled : ℕ
  pub order : Order
  pub gone : ℕ
  pub place : ℕ

-- they come to one place emptied and one filled, and so does what searches read of them; x lies at place i
pub record LandsAs (k gone place : ℕ) (o : Order) (i : ℕ) (x : Order) (r : Landing) : Type 0 where
  pub within : (r.emptied < symbols * orders_each) × (r.filled < symbols * orders_each)
  pub lands : (l : List Order) → k < symbols → x ≡ get_or l (spot_in orders_each k i) no_order
      → set (set l r.emptied no_order) r.filled r.order ≡ placed_in orders_each k (placed_in orders_each k l gone no_order) place o
  pub mirrors : (b m : Beside) → Mirrors b k r.gone r.place r.order m → Mirrors b k gone place o m

-- the orders after the two stores
abbrev pub laid_in : Orders → Landing → Beside → Orders
laid_in b r m = record { places = set (set b.places r.emptied no_order) r.filled r.order; numbers = m.numbers; lives = m.lives; spans = m.spans }

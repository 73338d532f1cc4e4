-- What the best of a side is: document 01, "The book".
use Rattle.std.specs.Prelude.{Bool, true, false, cond, ◌≢◌, ◌≡◌, ℕ, ◌+◌, max, min, ◌≤◌, eqb, Option, Some, None}
use Rattle.std.specs.Bool.{beq}
use mathlib.Core.List.{List, Memᴰ}
use Rattle.places.specs.Places.{fold, sum_by}
use Rattle.orders.specs.declared.Order.{Order}
use Rattle.orders.specs.declared.levels.Level.{Level}

-- a live order of the side
abbrev pub counts : Bool → Order → Bool
counts buy o = cond o.live (beq o.buy buy) false

-- the highest buy, the lowest sell
abbrev pub better : Bool → ℕ → Option ℕ → Option ℕ
better buy p None = Some p
better buy p (Some q) = Some (cond buy (max q p) (min q p))

unfoldable pub best_step : Bool → Order → Option ℕ → Option ℕ
best_step buy o b = cond (counts buy o) (better buy o.price b) b

abbrev pub no_best : Option ℕ
no_best = None

abbrev pub best_of : Bool → List Order → Option ℕ
best_of buy os = fold (best_step buy) no_best os

-- the shares of an order at a price
unfoldable pub shares_at : Bool → ℕ → Order → ℕ
shares_at buy p o = cond (counts buy o) (cond (eqb o.price p) o.volume 0) 0

-- for each side none, or the best price with the exact share sum at it
abbrev pub level_at : (price size : ℕ) → Option Level
level_at p n = Some (record { price = p; size = n })

abbrev pub level_if : Bool → ℕ → ℕ → Option Level
level_if true p n = level_at p n
level_if false p n = None

abbrev pub level_by : Bool → List Order → Option ℕ → Option Level
level_by buy os None = None
level_by buy os (Some p) = level_at p (sum_by (shares_at buy p) os)

unfoldable pub level_of : Bool → List Order → Option Level
level_of buy os = level_by buy os (best_of buy os)

-- ---- what is said of a level: no price of the side is better than the best
abbrev pub NoBetter : Bool → ℕ → ℕ → Type 0
NoBetter true best p = p ≤ best
NoBetter false best p = best ≤ p

-- a live order of the side has this price
pub record Attained (buy : Bool) (price : ℕ) (os : List Order) : Type 0 where
  pub order : Order
  pub live : Memᴰ order os
  pub side : counts buy order ≡ true
  pub at : order.price ≡ price

-- of a live order with this number so many shares come off: at its own price of its own side that many fewer are live, and at every other as many as before
pub record TakesOff (number volume : ℕ) (before after : List Order) : Type 0 where
  pub order : Order
  pub live : Memᴰ order before
  pub named : order.number ≡ number
  pub own_price : sum_by (shares_at order.buy order.price) after + volume ≡ sum_by (shares_at order.buy order.price) before
  pub elsewhere : (buy : Bool) (price : ℕ) → (buy ≡ order.buy → price ≢ order.price) → sum_by (shares_at buy price) after ≡ sum_by (shares_at buy price) before

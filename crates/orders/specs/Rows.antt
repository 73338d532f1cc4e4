-- What the ten best prices of a side are: document 02, M-106.
use Rattle.std.specs.Prelude.{Bool, true, false, cond, ◌≡◌, ℕ, zero, suc, ◌<◌, ◌≤◌, eqb, ltb, length, get_or, replicate, Option, Some, None}
use mathlib.Core.List.{List, [], ◌∷◌, Memᴰ}
use Rattle.places.specs.Places.{fold, sum_by, count}
use Rattle.orders.specs.Levels.{counts, best_step, no_best, shares_at, level_if}
use Rattle.orders.specs.declared.Order.{Order}
use Rattle.orders.specs.declared.levels.Level.{Level}
use Rattle.orders.specs.declared.rows.LevelRow.{LevelRow}

-- the prices of a side that are shown
abbrev pub levels : ℕ
levels = 10

-- unused rows are marked empty, by a mark and not by a price, since 0 is one
abbrev pub no_row : LevelRow
no_row = record { used = false; price = 0; size = 0; orders = 0 }

-- strictly better: a higher buy, a lower sell
abbrev pub ahead : Bool → ℕ → ℕ → Bool
ahead true p q = ltb q p
ahead false p q = ltb p q

-- strictly worse than the row before; before the first row every price is
abbrev pub beyond : Bool → LevelRow → ℕ → Bool
beyond buy before p = cond before.used (ahead buy before.price p) true

-- the best price beyond a row, if there is one
unfoldable pub next_step : Bool → LevelRow → Order → Option ℕ → Option ℕ
next_step buy before o b = cond (beyond buy before o.price) (best_step buy o b) b

abbrev pub next_of : Bool → LevelRow → List Order → Option ℕ
next_of buy before os = fold (next_step buy before) no_best os

-- a live order of the side stands at a price
unfoldable pub stands_at : Bool → ℕ → Order → Bool
stands_at buy p o = cond (counts buy o) (eqb o.price p) false

-- a price with the exact share sum and the number of orders at it
abbrev pub row_of : Bool → ℕ → List Order → LevelRow
row_of buy p os = record { used = true; price = p; size = sum_by (shares_at buy p) os; orders = count (stands_at buy p) os }

-- of no price, the empty row
abbrev pub row_if : Bool → List Order → Option ℕ → LevelRow
row_if buy os None = no_row
row_if buy os (Some p) = row_of buy p os

-- the row after a row
unfoldable pub row_after : Bool → LevelRow → List Order → LevelRow
row_after buy before os = row_if buy os (next_of buy before os)

-- so many rows, best first, each the one after the row before; where a price is wanting, the rest is empty
unfoldable pub rows_from : ℕ → Bool → LevelRow → List Order → List LevelRow
rows_from zero buy before os = []
rows_from (suc n) buy before os = row_after buy before os ∷ cond (row_after buy before os).used (rows_from n buy (row_after buy before os) os) (replicate n no_row)

unfoldable pub side_rows : Bool → List Order → List LevelRow
side_rows buy os = rows_from levels buy no_row os

-- ---- what is said of the rows of a side
-- row i, from 0
abbrev pub row_at : List LevelRow → ℕ → LevelRow
row_at rows i = get_or rows i no_row

-- a row as one side of a quote
abbrev pub as_level : LevelRow → Option Level
as_level row = level_if row.used row.price row.size

abbrev pub Better : Bool → ℕ → ℕ → Type 0
Better true p q = q < p
Better false p q = p < q

-- of the first n rows one has the price, or every one is used and strictly better
pub data Ranks (n : ℕ) (buy : Bool) (price : ℕ) (rows : List LevelRow) : Type 0 where
  has_a_row : (i : ℕ) → i < n → (row_at rows i).used ≡ true → (row_at rows i).price ≡ price → Ranks n buy price rows
  past_the_last : ((i : ℕ) → i < n → ((row_at rows i).used ≡ true) × Better buy (row_at rows i).price price) → Ranks n buy price rows

pub record OfRows (buy : Bool) (os : List Order) (rows : List LevelRow) : Type 0 where
  pub ten : length rows ≡ levels
  -- before a used row each is used, and its price strictly better: so no price comes twice, and no empty row before a used one
  pub best_first : (i j : ℕ) → i < j → j < levels → (row_at rows j).used ≡ true → ((row_at rows i).used ≡ true) × Better buy (row_at rows i).price (row_at rows j).price
  -- a used row has the exact sum of the shares and the number of the live orders at its price, of which there is one at least
  pub exact : (i : ℕ) → i < levels → (row_at rows i).used ≡ true
      → ((row_at rows i).size ≡ sum_by (shares_at buy (row_at rows i).price) os) × ((row_at rows i).orders ≡ count (stands_at buy (row_at rows i).price) os) × (1 ≤ (row_at rows i).orders)
  -- the price of every live order of the side has a row, or ten better ones have
  pub none_left_out : (o : Order) → Memᴰ o os → counts buy o ≡ true → Ranks levels buy o.price rows
  pub unused_empty : (i : ℕ) → i < levels → (row_at rows i).used ≡ false → row_at rows i ≡ no_row

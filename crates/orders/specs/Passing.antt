-- One pass over a symbol's places, order by order, as the code makes it. No rule of a document stands here, and nothing here need be believed.
use Rattle.std.specs.Prelude.{Bool, true, cond, ℕ, ◌+◌, ◌<◌, ◌≤◌, eqb}
use Rattle.orders.specs.Levels.{counts}
use Rattle.orders.specs.Rows.{ahead, beyond}
use Rattle.orders.specs.declared.Order.{Order}
use Rattle.orders.specs.declared.rows.LevelRow.{LevelRow}

-- an order by itself, and one more at the row's price
abbrev pub alone : ℕ → ℕ → LevelRow
alone p v = record { used = true; price = p; size = v; orders = 1 }

abbrev pub joined : ℕ → LevelRow → LevelRow
joined v row = record { used = true; price = row.price; size = row.size + v; orders = row.orders + 1 }

abbrev pub met_by : Bool → ℕ → ℕ → LevelRow → LevelRow
met_by buy p v row = cond row.used (cond (eqb p row.price) (joined v row) (cond (ahead buy p row.price) (alone p v) row)) (alone p v)

unfoldable pub row_step : Bool → LevelRow → Order → LevelRow → LevelRow
row_step buy before o row = cond (counts buy o) (cond (beyond buy before o.price) (met_by buy o.price o.volume row) row) row

-- the largest volume of an order, of 32 bits
abbrev pub most_shares : ℕ
most_shares = 4294967295

-- sum and count have room for an order more, and an order adds no more than that
pub record HasRoom (row : LevelRow) : Type 0 where
  pub size : row.size + most_shares < 18446744073709551616
  pub orders : row.orders + 1 < 4294967296

pub record Grows (row after : LevelRow) : Type 0 where
  pub size : after.size ≤ row.size + most_shares
  pub orders : after.orders ≤ row.orders + 1

-- What ten levels a side are: document 02, M-106.
use Rattle.std.specs.Prelude.{Bool, true, false, List, ℕ, replicate}
use Rattle.std.proofs.Math.Option.{Option, none, some}
use Rattle.orders.specs.Rows.{levels, no_row, side_rows}
use Rattle.orders.specs.declared.Order.{Order}
use Rattle.orders.specs.declared.rows.LevelRow.{LevelRow}
use Rattle.book.specs.State.{Symbol, View, symbol_in}
use Rattle.book.specs.declared.depth.Depth.{Depth}

-- refused, with 5 or else with 8, every row is empty
abbrev pub no_depth : ℕ → Depth
no_depth a = record { answer = a; bids = replicate levels no_row; asks = replicate levels no_row }

-- each side alone: a crossed book is shown as it is
abbrev pub depth_if : Bool → List Order → Depth
depth_if true os = no_depth 8
depth_if false os = record { answer = 0; bids = side_rows true os; asks = side_rows false os }

abbrev pub depth_by : Option Symbol → Depth
depth_by none = no_depth 5
depth_by (some s) = depth_if s.entry.standing.stale s.orders

unfoldable pub depth_of : ℕ → View → Depth
depth_of index v = depth_by (symbol_in index v)

-- ---- what is said of a depth: one side of it
abbrev pub rows_of : Bool → Depth → List LevelRow
rows_of true d = d.bids
rows_of false d = d.asks

-- What is printed of ten levels a side: document 02, M-106.
use Rattle.std.specs.Prelude.{ℕ, ◌*◌, Bool, true, false, List, [], ◌∷◌, ◌++◌, ◌==◌}
use Rattle.orders.specs.Rows.{levels}
use Rattle.orders.specs.declared.rows.LevelRow.{LevelRow}
use Rattle.book.specs.State.{View}
use Rattle.book.specs.Registering.{told_in}
use Rattle.book.specs.Depth.{depth_of}
use Rattle.book.specs.declared.depth.Depth.{Depth}
use Rattle.columns.specs.Columns.{Column, number, price, bytes, rendered}
use Rattle.columns.specs.Held.{room}
use Rattle.page.specs.Columns.{listing_of}
use Rattle.page.specs.Printout.{letter}

abbrev pub letter_d : Column
letter_d = letter 68

-- the side's letter: `B` of a bid, `S` of an ask
abbrev pub side_byte : Bool → ℕ
side_byte true = 66
side_byte false = 83

-- price at the symbol's scale, size and number of orders, or three empty fields
abbrev pub row_columns : Bool → ℕ → LevelRow → List Column
row_columns true scale row = price scale row.price ∷ number row.size ∷ number row.orders ∷ []
row_columns false scale row = bytes [] ∷ bytes [] ∷ bytes [] ∷ []

-- `D,B,` or `D,S,` and these
unfoldable pub row_text : Bool → ℕ → LevelRow → List ℕ
row_text buy scale row = rendered (letter_d ∷ letter (side_byte buy) ∷ row_columns row.used scale row)

-- rows one behind the other
unfoldable pub rows_text : Bool → ℕ → List LevelRow → List ℕ
rows_text buy scale [] = []
rows_text buy scale (row ∷ rows) = row_text buy scale row ++ rows_text buy scale rows

-- the rows of the bids and then of the asks, or `D,` and the number that refuses them
abbrev pub depth_lines : Bool → ℕ → Depth → List ℕ
depth_lines true scale d = rows_text true scale d.bids ++ rows_text false scale d.asks
depth_lines false scale d = rendered (letter_d ∷ number d.answer ∷ [])

unfoldable pub depth_text : ℕ → Depth → List ℕ
depth_text scale d = depth_lines (d.answer == 0) scale d

-- of the symbol with this index
unfoldable pub levels_text : View → ℕ → List ℕ
levels_text v index = depth_text (listing_of (told_in index v)).scale (depth_of index v)

-- room for the rows of a side, and for those of both, at any scale that a byte can hold
abbrev pub side_room : ℕ
side_room = levels * room

abbrev pub levels_room : ℕ
levels_room = 2 * side_room

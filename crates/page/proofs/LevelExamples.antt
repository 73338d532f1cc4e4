-- The text of two prices a side, of an empty side, of a refusal, and of two symbols of other scales, by computation.
use Rattle.std.proofs.Common.{◌≡◌, ℕ, true, false, List, [], ◌∷◌, ◌++◌, replicate, refl}
use mathlib.Core.Option.{none, some}
use Rattle.markets.specs.declared.Market.{Market}
use Rattle.places.specs.Places.{first_where, fold, sum_by}
use Rattle.symbols.specs.State.{place_of, found_in}
use Rattle.symbols.specs.Registering.{new_entry, told_of}
use Rattle.orders.specs.Rules.{order_of}
use Rattle.orders.specs.Levels.{best_step, shares_at}
use Rattle.orders.specs.Rows.{no_row, next_step, stands_at, row_after, rows_from, side_rows}
use Rattle.record.specs.State.{nothing_kept}
use Rattle.orders.specs.declared.rows.LevelRow.{LevelRow}
use Rattle.book.specs.State.{View, symbol_of}
use Rattle.book.specs.Registering.{told_in}
use Rattle.book.specs.Depth.{no_depth, depth_of}
use Rattle.book.specs.declared.depth.Depth.{Depth}
use Rattle.columns.specs.Text.{fixed, digits_by, digits, priced}
use Rattle.columns.specs.Columns.{rendered}
use Rattle.page.specs.Levels.{row_text, rows_text, depth_text, levels_text}
use Rattle.page.specs.Marked.{ascii}

abbrev row : ℕ → ℕ → ℕ → LevelRow
row price size orders = record { used = true; price = price; size = size; orders = orders }

-- at scale 4: two prices that are bid, the better one by two orders, and one that is asked, at 0
abbrev shown : Depth
shown = record { answer = 0; bids = row 1234500 250 2 ∷ row 1234400 75 1 ∷ replicate 8 no_row; asks = row 0 40 1 ∷ replicate 9 no_row }

pub shown_text : depth_text 4 shown
    ≡ ascii "D,B,123.4500,250,2\nD,B,123.4400,75,1\nD,B,,,\nD,B,,,\nD,B,,,\nD,B,,,\nD,B,,,\nD,B,,,\nD,B,,,\nD,B,,,\n"
    ++ ascii "D,S,0.0000,40,1\nD,S,,,\nD,S,,,\nD,S,,,\nD,S,,,\nD,S,,,\nD,S,,,\nD,S,,,\nD,S,,,\nD,S,,,\n"
unfolding depth_text rows_text row_text rendered fixed digits_by digits priced
shown_text = refl

-- scale 0 has no point
pub whole_text : row_text true 0 (row 12 300 3) ≡ ascii "D,B,12,300,3\n"
unfolding row_text rendered digits_by digits priced
whole_text = refl

pub stale_text : depth_text 4 (no_depth 8) ≡ ascii "D,8\n"
unfolding depth_text rendered digits_by digits
stale_text = refl

pub unknown_text : depth_text 0 (no_depth 5) ≡ ascii "D,5\n"
unfolding depth_text rendered digits_by digits
unknown_text = refl

-- ---- the symbol that is asked for, at its own scale: ABC at 2 with a bid, XYZ at 0 with an ask, which begin alike otherwise
abbrev two_symbols : View
two_symbols = record {
  market = Market.Nyse;
  places =
      some (symbol_of (new_entry 7 (65 ∷ 66 ∷ 67 ∷ []) 2) (order_of 1 true 12345 10 ∷ []) nothing_kept)
      ∷ some (symbol_of (new_entry 8 (88 ∷ 89 ∷ 90 ∷ []) 0) (order_of 1 false 12345 20 ∷ []) nothing_kept)
      ∷ replicate 6 none;
}

-- nine rows of a side that are empty
abbrev no_bids : List ℕ
no_bids = ascii "D,B,,,\nD,B,,,\nD,B,,,\nD,B,,,\nD,B,,,\nD,B,,,\nD,B,,,\nD,B,,,\nD,B,,,\n"

abbrev no_asks : List ℕ
no_asks = ascii "D,S,,,\nD,S,,,\nD,S,,,\nD,S,,,\nD,S,,,\nD,S,,,\nD,S,,,\nD,S,,,\nD,S,,,\n"

pub text_of_abc : levels_text two_symbols 7 ≡ ascii "D,B,123.45,10,1\n" ++ no_bids ++ ascii "D,S,,,\n" ++ no_asks
unfolding levels_text depth_text rows_text row_text rendered fixed digits_by digits priced told_in told_of depth_of found_in place_of first_where side_rows rows_from row_after next_step best_step shares_at stands_at fold sum_by
text_of_abc = refl

pub text_of_xyz : levels_text two_symbols 8 ≡ ascii "D,B,,,\n" ++ no_bids ++ ascii "D,S,12345,20,1\n" ++ no_asks
unfolding levels_text depth_text rows_text row_text rendered fixed digits_by digits priced told_in told_of depth_of found_in place_of first_where side_rows rows_from row_after next_step best_step shares_at stands_at fold sum_by
text_of_xyz = refl

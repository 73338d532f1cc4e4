-- What is printed of a file of messages: document 01, "What the bureau's reader does".
use Rattle.std.specs.Prelude.{ℕ, ◌+◌, ◌%◌, Bool, true, false, cond, List, [], ◌∷◌, ◌++◌, ◌==◌, Option, Some, None}
use Rattle.wire.specs.Outcome.{Outcome, done, refused}
use Rattle.wire.specs.Reading.{read_of}
use Rattle.wire.specs.Message.{type_of, index_in}
use Rattle.wire.specs.declared.Message.{Message}
use Rattle.markets.specs.declared.Market.{Market}
use Rattle.orders.specs.declared.levels.Level.{Level}
use Rattle.book.specs.State.{View, Next}
use Rattle.book.specs.Registering.{told_in}
use Rattle.book.specs.Step.{step_in}
use Rattle.book.specs.Quote.{quote_of}
use Rattle.book.specs.Walk.{Walk, walk_of, steps_of}
use Rattle.book.specs.declared.quote.Quote.{Quote}
use Rattle.columns.specs.Columns.{Column, number, price, bytes, rendered}
use Rattle.page.specs.Columns.{listing_of, columns_of}
use Rattle.page.specs.Printing.{has_no_line}

-- a letter that tells what a line is
abbrev pub letter : ℕ → Column
letter b = bytes (b ∷ [])

abbrev pub letter_r : Column
letter_r = letter 82

abbrev pub letter_e : Column
letter_e = letter 69

abbrev pub letter_q : Column
letter_q = letter 81

-- ---- a message that was passed over, read as its market sends it, by its answer and the view after it

-- with a bad field, and with nothing else, its offset in the message
abbrev pub offset_if : Bool → ℕ → List Column
offset_if true offset = number offset ∷ []
offset_if false offset = []

-- a refusal before the stop: `R,answer,place`, and with a bad field `R,4,place,offset`
abbrev pub refusal : ℕ → ℕ → ℕ → List Column
refusal answer offset place = letter_r ∷ number answer ∷ number place ∷ offset_if (answer == 4) offset

-- the place is the line's sequence number, which has 32 bits
abbrev pub sequences : ℕ
sequences = 4294967296

abbrev pub sequence_of : ℕ → ℕ
sequence_of place = place % sequences

-- the line of a done 100 or 111, and nothing of another type
abbrev pub line_if : Bool → List ℕ → List ℕ
line_if true line = []
line_if false line = line

abbrev pub done_text : View → Outcome Message → List ℕ → ℕ → ℕ → List ℕ
done_text v (refused a) plain place second = []
done_text v (done m) plain place second = line_if (has_no_line (type_of m)) (rendered (columns_of (listing_of (told_in (index_in m) v)) m plain (sequence_of place) second))

unfoldable pub passed_text : Market → Next → List ℕ → ℕ → ℕ → List ℕ
passed_text market x m place second = cond (x.answer == 0) (done_text x.view (read_of market m).outcome (read_of market m).plain place second) (rendered (refusal x.answer (read_of market m).offset place))

-- ---- messages one behind the other: each has the next place, and the answer and the view that the rules give it

-- a place has 64 bits
abbrev pub place_numbers : ℕ
place_numbers = 18446744073709551616

abbrev pub next_place : ℕ → ℕ
next_place place = (place + 1) % place_numbers

unfoldable pub texts_of : ℕ → View → ℕ → List (List ℕ) → List ℕ
texts_of second v place [] = []
texts_of second v place (m ∷ ms) = passed_text v.market (step_in v m) m (next_place place) second ++ texts_of second (step_in v m).view (next_place place) ms

-- ---- the end

-- `E,answer`
unfoldable pub end_text : ℕ → List ℕ
end_text answer = rendered (letter_e ∷ number answer ∷ [])

-- price and size, or two empty fields
abbrev pub level_columns : ℕ → Option Level → List Column
level_columns scale None = bytes [] ∷ bytes [] ∷ []
level_columns scale (Some x) = price scale x.price ∷ number x.size ∷ []

-- bid price, bid size, ask price, ask size, or the number that refuses the quote
abbrev pub quote_columns : Bool → ℕ → Quote → List Column
quote_columns true scale x = level_columns scale x.bid ++ level_columns scale x.ask
quote_columns false scale x = number x.answer ∷ []

-- `Q,` and these
unfoldable pub quote_text : ℕ → Quote → List ℕ
quote_text scale x = rendered (letter_q ∷ quote_columns (x.answer == 0) scale x)

-- the answer that stopped the walk, and the quote of the last state
unfoldable pub closing : View → ℕ → ℕ → List ℕ
closing v index answer = end_text answer ++ quote_text (listing_of (told_in index v)).scale (quote_of index v)

-- ---- a whole file, walked from a state in which the symbol with that index is registered
unfoldable pub printed_of : ℕ → ℕ → View → Walk → List ℕ
printed_of index second v w = texts_of second v 0 w.messages ++ closing (steps_of v w.messages) index w.answer

abbrev pub printout_of : ℕ → ℕ → View → List ℕ → List ℕ
printout_of index second v file = printed_of index second v (walk_of file 0)

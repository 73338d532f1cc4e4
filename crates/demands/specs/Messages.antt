-- Messages of symbol ABC as bytes, laid out as document 01's table says: index 7, 125 nanoseconds, firm FIRM1; and what is quoted of it.
use Rattle.std.specs.Prelude.{ℕ, List, [], ◌∷◌, ◌++◌, Option, None}
use Rattle.wire.specs.Bytes.{little_endian}
use Rattle.wire.specs.Fields.{buy_letter, sell_letter}
use Rattle.orders.specs.Levels.{level_at}
use Rattle.orders.specs.declared.levels.Level.{Level}
use Rattle.book.specs.declared.quote.Quote.{Quote}

-- fields one after the other, each with its size
abbrev pub field_bytes : List (ℕ × ℕ) → List ℕ
field_bytes [] = []
field_bytes (f ∷ fs) = little_endian f.0 f.1 ++ field_bytes fs

abbrev pub index : ℕ
index = 7

abbrev pub buy : ℕ
buy = buy_letter

abbrev pub sell : ℕ
sell = sell_letter

abbrev pub add : (number order side price volume : ℕ) → List ℕ
add number order side price volume =
    field_bytes ((2, 39) ∷ (2, 100) ∷ (4, 125) ∷ (4, index) ∷ (4, number) ∷ (8, order) ∷ (4, price) ∷ (4, volume) ∷ (1, side) ∷ (1, 70) ∷ (1, 73) ∷ (1, 82) ∷ (1, 77) ∷ (1, 49) ∷ (1, 0) ∷ [])

abbrev pub delete : (number order : ℕ) → List ℕ
delete number order = field_bytes ((2, 25) ∷ (2, 102) ∷ (4, 125) ∷ (4, index) ∷ (4, number) ∷ (8, order) ∷ (1, 0) ∷ [])

-- under a trade number, printed or not, with these conditions
abbrev pub execute_as : (printable settlement exemption hours detail : ℕ) (number order trade price volume : ℕ) → List ℕ
execute_as printable settlement exemption hours detail number order trade price volume =
    field_bytes ((2, 42) ∷ (2, 103) ∷ (4, 125) ∷ (4, index) ∷ (4, number) ∷ (8, order) ∷ (4, trade) ∷ (4, price) ∷ (4, volume) ∷ (1, printable) ∷ (1, 0) ∷ (1, settlement) ∷ (1, exemption) ∷ (1, hours) ∷ (1, detail) ∷ [])

abbrev pub execute_with : (settlement exemption hours detail : ℕ) (number order trade price volume : ℕ) → List ℕ
execute_with = execute_as 1

-- a regular sale: `@` and three spaces
abbrev pub execute : (number order trade price volume : ℕ) → List ℕ
execute = execute_with 64 32 32 32

abbrev pub execute_unprinted : (number order trade price volume : ℕ) → List ℕ
execute_unprinted = execute_as 0 64 32 32 32

abbrev pub replace : (number order new_order side price volume : ℕ) → List ℕ
replace number order new_order side price volume =
    field_bytes ((2, 42) ∷ (2, 104) ∷ (4, 125) ∷ (4, index) ∷ (4, number) ∷ (8, order) ∷ (8, new_order) ∷ (4, price) ∷ (4, volume) ∷ (1, side) ∷ (1, 0) ∷ [])

-- an opening cross, and the correction of one
abbrev pub cross : (number auction price volume : ℕ) → List ℕ
cross number auction price volume = field_bytes ((2, 29) ∷ (2, 111) ∷ (4, 125) ∷ (4, index) ∷ (4, number) ∷ (4, auction) ∷ (4, price) ∷ (4, volume) ∷ (1, 79) ∷ [])

abbrev pub correction : (number auction volume : ℕ) → List ℕ
correction number auction volume = field_bytes ((2, 24) ∷ (2, 113) ∷ (4, 125) ∷ (4, index) ∷ (4, number) ∷ (4, auction) ∷ (4, volume) ∷ [])

abbrev pub cancel : (number trade : ℕ) → List ℕ
cancel number trade = field_bytes ((2, 20) ∷ (2, 112) ∷ (4, 125) ∷ (4, index) ∷ (4, number) ∷ (4, trade) ∷ [])

-- at second 34,200
abbrev pub clear : (next : ℕ) → List ℕ
clear next = field_bytes ((2, 20) ∷ (2, 32) ∷ (4, 34200) ∷ (4, 125) ∷ (4, index) ∷ (4, next) ∷ [])

-- ---- what is quoted of it: for each side none, or so many shares at a price
abbrev pub no_level : Option Level
no_level = None

infix 20 ◌at◌
abbrev pub ◌at◌ : ℕ → ℕ → Option Level
size at price = level_at price size

abbrev pub shows : Option Level → Option Level → Quote
shows bid ask = record { answer = 0; bid = bid; ask = ask }

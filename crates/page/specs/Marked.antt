-- Document 01's marked case L: what is given, and the line.
use Rattle.std.specs.Prelude.{ℕ, zero, suc, ◌+◌, List, [], ◌∷◌, Option, Some}
use Prim.Native.Char.{code}
use Prim.Native.String.{String, len, char_at}
use Rattle.wire.specs.Bytes.{padded_plain}
use Rattle.wire.specs.Fields.{buy_letter}
use Rattle.wire.specs.declared.Message.{Message}
use Rattle.wire.specs.declared.Message.TheVariants.{Add}
use Rattle.symbols.specs.declared.registering.Listing.{Listing}

abbrev pub ascii_from : ℕ → ℕ → String → List ℕ
ascii_from zero i s = []
ascii_from (suc n) i s = code (char_at s i) ∷ ascii_from n (i + 1) s

-- the bytes of a text
abbrev pub ascii : String → List ℕ
ascii s = ascii_from (len s) 0 s

-- what is told of the symbol: index 7, scale 4
abbrev pub abc : Option Listing
abc = Some (record { name = 65 ∷ 66 ∷ 67 ∷ 0 ∷ 0 ∷ 0 ∷ 0 ∷ 0 ∷ 0 ∷ 0 ∷ 0 ∷ []; len = 3; scale = 4 })

-- #3: add 1001 buy 1234500 x 200, at 125 nanoseconds
abbrev pub add : Message
add = Add (record { nanos = 125; index = 7; number = 3 }) 1001 1234500 200 buy_letter

abbrev pub firm : List ℕ
firm = padded_plain (ascii "FIRM1")

abbrev pub line_l : List ℕ
line_l = ascii "100,57,09:30:00.000000125,ABC,3,1001,123.4500,200,B,FIRM1,0\n"

-- with sequence number 57, at second 34,200
abbrev pub sequence_l : ℕ
sequence_l = 57

abbrev pub second_l : ℕ
second_l = 34200

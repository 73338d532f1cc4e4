-- Registering a symbol, and what is told of one: document 01, "Numbers answered". The rows stand in `symbols`.
use Rattle.std.specs.Prelude.{List, [], ℕ, Option, Some, None}
use Rattle.std.proofs.Math.Option.{map}
use Rattle.symbols.specs.State.{Entry}
use Rattle.record.specs.State.{nothing_kept}
use Rattle.symbols.specs.Registering as symbols-room
use Rattle.symbols.specs.Registering.{registered, told_of}
use Rattle.symbols.specs.declared.registering.Listing.{Listing}
use Rattle.book.specs.State.{Symbol, View, with_places, Next, symbol_of, entry_of, symbol_in}

-- a new symbol has nothing live and nothing recorded
abbrev pub started : Entry → Symbol
started e = symbol_of e [] nothing_kept

-- the places are those of the rule, and the market stays
abbrev pub placing : View → symbols-room.Next Symbol → Next
placing v x = record { view = with_places v x.view; answer = x.answer }

abbrev pub register_of : View → ℕ → List ℕ → ℕ → Next
register_of v index name scale = placing v (registered entry_of started v.places index name scale)

-- ---- what is told of a symbol hangs on its entry
unfoldable pub told_in : ℕ → View → Option Listing
told_in index v = told_of (map entry_of (symbol_in index v))

-- document 01's number of it: where nobody is registered, 5
abbrev pub told_number : Option Listing → ℕ
told_number (Some l) = 0
told_number None = 5

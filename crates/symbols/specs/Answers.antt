-- What a call answers, in document 01's numbers: 0 where it is done, and otherwise that of its refusal; and a place, or none.
use Rattle.std.specs.Prelude.{◌≡◌, ℕ, ◌≤◌, Option, Some, None, Result, Ok, Err}
use Rattle.places.specs.Places.{symbols}
use Rattle.places.specs.declared.seats.Seat.{Seat}
use Rattle.symbols.specs.declared.registering.RegisterError.{RegisterError}
use Rattle.symbols.specs.declared.registering.RegisterError.TheVariants.{BadName, Taken, Full}
use Rattle.symbols.specs.declared.turns.TurnError.{TurnError}
use Rattle.symbols.specs.declared.turns.TurnError.TheVariants.{Unknown, Old, Gap, Stale}

abbrev pub answered : {T E : Type 0} → (E → ℕ) → Result T E → ℕ
answered number (Ok x) = 0
answered number (Err e) = number e

-- a name or a scale that a symbol can't have, an index that is registered, and a ninth symbol
abbrev pub register_number : RegisterError → ℕ
register_number BadName = 13
register_number Taken = 11
register_number Full = 12

-- nobody registered, a number used before, one that comes too early, and a symbol that waits for its clear
abbrev pub turn_number : TurnError → ℕ
turn_number Unknown = 5
turn_number Old = 6
turn_number Gap = 7
turn_number Stale = 8

-- the seat of place n where it is one of the eight, or none
abbrev pub Sits : Option Seat → ℕ → Type 0
Sits None n = symbols ≤ n
Sits (Some seat) n = seat.place ≡ n

-- A line is a list of columns (document 01, "The TAQ page"; source 003 has the fields).
use Rattle.std.specs.Prelude.{ℕ, List, [], ◌∷◌, ◌++◌, take, replicate, Option, Some, None}
use Rattle.columns.specs.Columns.{Column, number, price, clock, bytes, text}
use Rattle.symbols.specs.State.{name_bytes}
use Rattle.symbols.specs.declared.registering.Listing.{Listing}
use Rattle.wire.specs.declared.Head.{Head}
use Rattle.wire.specs.declared.Message.{Message}
use Rattle.wire.specs.declared.Message.TheVariants.{Add, Modify, Delete, Execute, Replace, Imbalance, NonDisplayed, Cross, TradeCancel, CrossCorrection, Retail, Clear, Status}

-- ---- the columns of each type

-- what is told of a symbol, and of one that is not registered no name and scale 0
abbrev pub listing_of : Option Listing → Listing
listing_of (Some s) = s
listing_of None = record { name = replicate name_bytes 0; len = 0; scale = 0 }

-- the name as it is kept
abbrev pub name_of : Listing → List ℕ
name_of s = take s.len s.name

abbrev pub firm_bytes : ℕ
firm_bytes = 5

-- every line begins with type, sequence number, time, symbol, symbol number
abbrev pub opening : ℕ → Listing → Head → ℕ → ℕ → List Column
opening type s h sequence second = number type ∷ number sequence ∷ clock second h.nanos ∷ bytes (name_of s) ∷ number h.number ∷ []

-- order, price, volume, side, firm, 0
abbrev pub add_columns : ℕ → ℕ → ℕ → ℕ → ℕ → List ℕ → List Column
add_columns scale order p volume side plain =
    number order ∷ price scale p ∷ number volume ∷ bytes (side ∷ []) ∷ text (take firm_bytes plain) ∷ number 0 ∷ []

-- cross, price, volume, cross type
abbrev pub cross_columns : ℕ → ℕ → ℕ → ℕ → ℕ → List Column
cross_columns scale cross p volume class = number cross ∷ price scale p ∷ number volume ∷ text (class ∷ []) ∷ []

-- the other types have no line
abbrev pub columns_of : Listing → Message → List ℕ → ℕ → ℕ → List Column
columns_of s (Add h order p volume side) plain sequence second = opening 100 s h sequence second ++ add_columns s.scale order p volume side plain
columns_of s (Cross h cross p volume class) plain sequence second = opening 111 s h sequence second ++ cross_columns s.scale cross p volume class
columns_of s (Modify h order p volume position side) plain sequence second = []
columns_of s (Delete h order) plain sequence second = []
columns_of s (Execute h order trade p volume printable) plain sequence second = []
columns_of s (Replace h order new_order p volume side) plain sequence second = []
columns_of s (Imbalance h seconds) plain sequence second = []
columns_of s (NonDisplayed h trade p volume printable) plain sequence second = []
columns_of s (TradeCancel h trade) plain sequence second = []
columns_of s (CrossCorrection h cross volume) plain sequence second = []
columns_of s (Retail h indicator) plain sequence second = []
columns_of s (Clear h seconds) plain sequence second = []
columns_of s (Status h seconds) plain sequence second = []

-- How long a line can be: each column is within its width.
use Rattle.std.proofs.Common.{◌≡◌, ℕ, ◌+◌, ◌<◌, ◌≤◌, List, length, le_trans, arith, length-take}
use Rattle.columns.specs.Columns.{rendered}
use Rattle.page.specs.Columns.{name_of, firm_bytes, columns_of}
use Rattle.columns.specs.Held.{room}
use Rattle.columns.proofs.Lengths.{total, widths, line_within_widths}
use Rattle.symbols.specs.State.{name_bytes}
use Rattle.symbols.specs.declared.registering.Listing.{Listing}
use Rattle.wire.specs.declared.Message.{Message}
use Rattle.wire.specs.declared.Message.TheVariants.{Add, Modify, Delete, Execute, Replace, Imbalance, NonDisplayed, Cross, TradeCancel, CrossCorrection, Retail, Clear, Status}

-- ---- the room: a line of any message, at any scale that a byte can hold
pub line_has_room : (s : Listing) (m : Message) (plain : List ℕ) (sequence second : ℕ) → length s.name ≡ name_bytes → s.scale < 256 →
    length (rendered (columns_of s m plain sequence second)) ≤ room
line_has_room s m plain sequence second long scale = le_trans (line_within_widths (columns_of s m plain sequence second)) (widths_have_room m)
  where
    name_short : length (name_of s) ≤ name_bytes
    name_short = omega (arith, length-take s.len s.name, long)

    widths_have_room : (m : Message) → 1 + total (widths (columns_of s m plain sequence second)) ≤ room
    widths_have_room (Add h order p volume side) = omega (arith, name_short, length-take firm_bytes plain)
    widths_have_room (Cross h cross p volume class) = omega (arith, name_short)
    widths_have_room (Modify h order p volume position side) = omega arith
    widths_have_room (Delete h order) = omega arith
    widths_have_room (Execute h order trade p volume printable) = omega arith
    widths_have_room (Replace h order new_order p volume side) = omega arith
    widths_have_room (Imbalance h seconds) = omega arith
    widths_have_room (NonDisplayed h trade p volume printable) = omega arith
    widths_have_room (TradeCancel h trade) = omega arith
    widths_have_room (CrossCorrection h cross volume) = omega arith
    widths_have_room (Retail h indicator) = omega arith
    widths_have_room (Clear h seconds) = omega arith
    widths_have_room (Status h seconds) = omega arith

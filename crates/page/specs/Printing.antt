-- Printing a line: the type (3), the message's fields (4), the symbol (5), the second of the day (14) and the room (15), in the order of document 01's checks.
use Rattle.std.specs.Prelude.{◌≡◌, ℕ, ◌+◌, Bool, true, false, cond, not, List, ◌++◌, length, take, drop, ◌==◌, nat_lt, Result, Ok, Err, Option, Some, None, is_some}
use Rattle.wire.specs.Outcome.{Answered, done, refused, only, bad_at}
use Rattle.wire.specs.Writing.{Write, leaving, refuse, refuse_field}
use Rattle.wire.specs.Message.{type_of, index_in, fault_in}
use Rattle.wire.specs.FirstBad.{FirstBadOf}
use Rattle.wire.specs.declared.Message.{Message}
use Rattle.markets.specs.declared.Market.{Market}
use Rattle.book.specs.State.{view}
use Rattle.book.specs.Registering.{told_in}
use Rattle.book.specs.declared.Book.{Book}
use Rattle.symbols.specs.declared.registering.Listing.{Listing}
use Rattle.columns.specs.Columns.{rendered}
use Rattle.page.specs.Columns.{listing_of, columns_of}
use Rattle.page.specs.declared.LineError.{LineError}

-- document 01's number and value of each case, and the offset
abbrev pub printed_as : Result ℕ LineError → Answered ℕ
printed_as (Ok n) = only (done n)
printed_as (Err LineError.BadType) = only (refused 3)
printed_as (Err (LineError.BadField n)) = bad_at n
printed_as (Err LineError.NoSymbol) = only (refused 5)
printed_as (Err LineError.BadSecond) = only (refused 14)
printed_as (Err LineError.NoRoom) = only (refused 15)

-- what printing answers, and what it leaves in the buffer
abbrev pub printed : Result ℕ LineError → List ℕ → Write
printed p out = leaving (printed_as p) out

-- only an add (100) and a cross (111) have a line
unfoldable pub has_no_line : ℕ → Bool
has_no_line type = cond (type == 100) false (not (type == 111))

abbrev pub last_second : ℕ
last_second = 86399

-- is the buffer shorter than the line?
abbrev pub laid_if : Bool → List ℕ → List ℕ → Write
laid_if true line out = refuse 15 out
laid_if false line out = leaving (only (done (length line))) (line ++ drop (length line) out)

unfoldable pub laid : List ℕ → List ℕ → Write
laid line out = laid_if (nat_lt (length out) (length line)) line out

-- a line behind the first bytes of a buffer: how many bytes there are then, and the buffer
pub record Appends (line : List ℕ) (at : ℕ) (before : List ℕ) (r : ℕ) (after : List ℕ) : Type 0 where
  pub count : r ≡ at + length line
  pub out : after ≡ take at before ++ line ++ drop (at + length line) before

-- one clause for each check: has the type no line, which field is bad, is the symbol known, the second past the day?
unfoldable pub line_by : Bool → Option ℕ → Bool → Bool → List ℕ → List ℕ → Write
line_by true bad known late line out = refuse 3 out
line_by false (Some n) known late line out = refuse_field n out
line_by false None false late line out = refuse 5 out
line_by false None true true line out = refuse 14 out
line_by false None true false line out = laid line out

-- the line of a message of a market at the start of out, by what is told of its symbol
unfoldable pub line_of : Market → Option Listing → Message → List ℕ → ℕ → ℕ → List ℕ → Write
line_of market s m plain sequence second out =
    line_by (has_no_line (type_of m)) (fault_in market m plain) (is_some s) (nat_lt last_second second) (rendered (columns_of (listing_of s) m plain sequence second)) out

-- a message that has a line, and its first bad field at n
pub record FirstBadOn (market : Market) (m : Message) (plain : List ℕ) (n : ℕ) : Type 0 where
  pub has_line : has_no_line (type_of m) ≡ false
  pub first : FirstBadOf market m plain n

-- what a book tells of a message's symbol
abbrev pub told : Book → Message → Option Listing
told b m = told_in (index_in m) (view b)

-- What a quote and the day's volume are: document 01, "The book" and "The trade record".
use Rattle.std.specs.Prelude as sides
use Rattle.std.specs.Prelude.{Bool, true, false, List, ◌≡◌, ℕ, ◌+◌, None}
use Rattle.std.proofs.Math.Option.{Option, none, some}
use Rattle.orders.specs.Levels.{level_of}
use Rattle.orders.specs.declared.Order.{Order}
use Rattle.orders.specs.declared.levels.Level.{Level}
use Rattle.record.specs.Rules.{shares_of}
use Rattle.book.specs.State.{Symbol, View, symbol_in}
use Rattle.book.specs.declared.quote.Quote.{Quote}
use Rattle.book.specs.declared.quote.Volume.{Volume}

-- refused, with 5 or else with 8, there is none on either side
abbrev pub no_quote : ℕ → Quote
no_quote a = record { answer = a; bid = None; ask = None }

abbrev pub quoted_if : Bool → List Order → Quote
quoted_if true os = no_quote 8
quoted_if false os = record { answer = 0; bid = level_of true os; ask = level_of false os }

abbrev pub quoted : Option Symbol → Quote
quoted none = no_quote 5
quoted (some s) = quoted_if s.entry.standing.stale s.orders

unfoldable pub quote_of : ℕ → View → Quote
quote_of index v = quoted (symbol_in index v)

-- the day's volume is the sum over kept trades and crosses, given in any state
abbrev pub volume_in : Option Symbol → Volume
volume_in none = record { answer = 5; shares = 0; whole = false }
volume_in (some s) = record { answer = 0; shares = shares_of s.kept; whole = s.entry.standing.whole }

unfoldable pub volume_of : ℕ → View → Volume
volume_of index v = volume_in (symbol_in index v)

-- of a volume: these shares are in the place of those, and answer and mark are as they were
pub record Replaces (old new : ℕ) (before after : Volume) : Type 0 where
  pub answer : after.answer ≡ before.answer
  pub shares : after.shares + old ≡ before.shares + new
  pub whole : after.whole ≡ before.whole

-- ---- what is said of a quote: one side of it
abbrev pub side_of : Bool → Quote → sides.Option Level
side_of true q = q.bid
side_of false q = q.ask

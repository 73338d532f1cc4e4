-- The reader that is built, as `feed` knows readers: its states are views, its step is the rule that the contracts cite, and its rules are document 01's.
use Rattle.std.specs.Prelude as sides
use Rattle.std.specs.Prelude.{true, false, [], ℕ}
use Rattle.std.proofs.Math.Option.{Option, none, some, IsSome}
use Rattle.feed.specs.Reader.{Kept, Rules}
use Rattle.feed.specs.Reader as feed
use Rattle.book.specs.State.{Symbol, View, symbol_in}
use Rattle.book.specs.Step.{change_of}
use Rattle.orders.specs.Rules.{apply_to}
use Rattle.orders.specs.Levels.{level_of}
use Rattle.book.specs.Quote.{no_quote}
use Rattle.orders.specs.declared.levels.Level.{Level}
use Rattle.book.specs.declared.quote.Quote.{Quote}

-- what a quote shows: for each side none, or the best price with the exact sum at it
pub record Sides : Type 0 where
  pub bid : sides.Option Level
  pub ask : sides.Option Level

-- document 01's rules of the book: a symbol's live orders, what a numbered message does to them, and what a quote shows of them
abbrev pub pillar : Rules
pillar = record { Orders = _; Effect = _; Shown = Sides; empty = []; apply = λ orders e. apply_to orders (change_of e); shows = λ orders. record { bid = level_of true orders; ask = level_of false orders } }

abbrev pub Orders : Type 0
Orders = pillar.Orders

abbrev pub Effect : Type 0
Effect = pillar.Effect

-- what demand 3 sees of a symbol
abbrev pub kept_of : Symbol → Kept Orders
kept_of s = record { expected = s.entry.standing.expected; stale = s.entry.standing.stale; orders = s.orders }

abbrev pub kept_if : Option Symbol → Option (Kept Orders)
kept_if none = none
kept_if (some s) = some (kept_of s)

unfoldable pub kept_in : View → ℕ → Option (Kept Orders)
kept_in v index = kept_if (symbol_in index v)

abbrev pub Registered : ℕ → View → Type 0
Registered index v = IsSome (symbol_in index v)

-- a quote in feed's words, as the one that the code hands back
unfoldable pub as_quote : feed.Showing Sides → Quote
as_quote (feed.refused answer) = no_quote answer
as_quote (feed.shown sides) = record { answer = 0; bid = sides.bid; ask = sides.ask }

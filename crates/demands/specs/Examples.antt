-- Feeds that demand 3 takes as given, as bytes: one with losses, two at the last number that a message can carry, and one that Texas alone takes.
use Rattle.std.specs.Prelude.{ℕ, List, [], ◌∷◌}
use Rattle.markets.specs.declared.Market.{Market}
use Rattle.book.specs.State.{View, new_view, view, Fresh}
use Rattle.book.specs.Promises.{Steps}
use Rattle.book.specs.Registering.{register_of}
use Rattle.book.specs.Quote.{no_quote, quote_of}
use Rattle.book.specs.Walk.{steps_of}
use Rattle.book.specs.declared.Book.{Book}
use Rattle.book.specs.declared.Done.{Done}
use Rattle.book.specs.declared.quote.Quote.{Quote}
use Rattle.demands.specs.ByteFeed.{ByteFeed, begins, hears, loses, delivered}
use Rattle.demands.specs.Messages.{index, buy, sell, add, delete, execute_with, execute, clear, shows, no_level, ◌at◌}

-- a new state of a market with ABC registered, scale 4
abbrev pub name : List ℕ
name = 65 ∷ 66 ∷ 67 ∷ []

abbrev pub scale : ℕ
scale = 4

pub data HasABC (market : Market) : Book → Type 0 where
  registered : {b : Book} {r : Done} → Fresh market b → Steps b (register_of (view b) index name scale) r → HasABC market r.book

abbrev pub view_abc : Market → View
view_abc market = (register_of (new_view market) index name scale).view

-- the same with XYZ, in the two orders of registering
abbrev pub other : ℕ
other = 8

abbrev pub other_name : List ℕ
other_name = 88 ∷ 89 ∷ 90 ∷ []

abbrev pub view_abc_then_xyz : Market → View
view_abc_then_xyz market = (register_of (view_abc market) other other_name scale).view

abbrev pub view_xyz_then_abc : Market → View
view_xyz_then_abc market = (register_of (register_of (new_view market) other other_name scale).view index name scale).view

-- one add, heard
abbrev pub one_add : ByteFeed
one_add = hears begins (add 1 1001 buy 1234500 200)

-- number 2 is lost, 3 shows it, a clear gives 9, and then 10 is lost
abbrev pub with_losses : ByteFeed
with_losses =
    loses (hears (hears (hears (loses (hears begins
    (add 1 1001 buy 1234500 200))
    (add 2 1002 buy 1234500 50))
    (execute 3 1001 1 1234400 200))
    (clear 9))
    (add 9 1003 sell 1235000 70))
    (delete 10 1003)

-- what the second reader quotes of ABC at each moment, the last one outermost
unfoldable pub quotes_along : Market → ByteFeed → List Quote
quotes_along market begins = []
quotes_along market (hears f m) = quote_of index (steps_of (view_abc market) (delivered (hears f m))) ∷ quotes_along market f
quotes_along market (loses f m) = quote_of index (steps_of (view_abc market) (delivered (loses f m))) ∷ quotes_along market f

abbrev pub along_losses : List Quote
along_losses =
    shows no_level (70 at 1235000)
    ∷ shows no_level (70 at 1235000)
    ∷ shows no_level no_level
    ∷ no_quote 8
    ∷ shows (200 at 1234500) no_level
    ∷ shows (200 at 1234500) no_level
    ∷ []

-- the last number: applied, after which only a clear goes on; and lost
abbrev pub last : ℕ
last = 4294967295

abbrev pub feed_past_the_last : ByteFeed
feed_past_the_last = hears (hears (hears (hears begins (clear last)) (add last 1001 buy 1234500 200)) (clear 1)) (add 1 1002 buy 1234500 50)

abbrev pub last_lost : ByteFeed
last_lost = hears (hears (loses (hears begins (clear last)) (add last 1001 buy 1234500 200)) (clear 1)) (add 1 1002 buy 1234500 50)

-- an execution with the conditions `C`, `7`, a space and `V`: cash, qualified contingent and contingent, which Texas alone lists
abbrev pub in_cash : (number order trade price volume : ℕ) → List ℕ
in_cash = execute_with 67 55 32 86

-- number 2 is lost, and an execution in cash shows it
abbrev pub in_texas : ByteFeed
in_texas =
    hears (loses (hears begins
    (add 1 1001 buy 1234500 200))
    (add 2 1002 buy 1234500 50))
    (in_cash 3 1001 1 1234400 200)

-- an order, and 50 shares of it executed in cash
abbrev pub one_in_cash : ByteFeed
one_in_cash = hears (hears begins (add 1 1001 buy 1234500 200)) (in_cash 2 1001 1 1234400 50)

-- What the program prints of a file: document 01, "What the bureau's reader does".
use Rattle.std.specs.Prelude.{List, [], ◌∷◌, ◌≡◌, ℕ}
use Rattle.markets.specs.declared.Market.{Market}
use Rattle.book.specs.State.{View, view, Wf, new_view}
use Rattle.book.specs.Registering.{register_of}
use Rattle.book.specs.declared.Book.{Book}
use Rattle.page.specs.Printout.{printout_of}

-- NYSE; index 7, ABC, scale 4
abbrev pub market : Market
market = Market.Nyse

abbrev pub index : ℕ
index = 7

abbrev pub name : List ℕ
name = 65 ∷ 66 ∷ 67 ∷ []

abbrev pub scale : ℕ
scale = 4

-- the local second of the day that every line carries
abbrev pub second : ℕ
second = 34200

-- a new state of that market with that symbol
unfoldable pub start_view : View
start_view = (register_of (new_view market) index name scale).view

pub record Starts (b : Book) : Type 0 where
  pub wf : Wf b
  pub view_at_start : view b ≡ start_view

unfoldable pub printout : List ℕ → List ℕ
printout file = printout_of index second start_view file

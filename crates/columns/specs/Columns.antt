-- A line is a list of columns (document 01, "The TAQ page").
use Rattle.std.specs.Prelude.{List, [], ◌∷◌, ◌++◌, map, ℕ}
use Rattle.columns.specs.Text.{comma, line_feed, digits, priced, timed, text_byte}

-- A number; a price at a scale; a second of the day with nanoseconds; bytes as they are kept; bytes by the firm's rule.
pub data Column : Type 0 where
  number : ℕ → Column
  price : ℕ → ℕ → Column
  clock : ℕ → ℕ → Column
  bytes : List ℕ → Column
  text : List ℕ → Column

abbrev pub shown : Column → List ℕ
shown (number n) = digits n
shown (price s p) = priced s p
shown (clock second nanos) = timed second nanos
shown (bytes bs) = bs
shown (text bs) = map text_byte bs

-- a separator stands before each column but the first
abbrev pub next : Column → List ℕ
next c = comma ∷ shown c

abbrev pub further : List Column → List ℕ
further [] = []
further (c ∷ cs) = next c ++ further cs

abbrev pub joined : List Column → List ℕ
joined [] = []
joined (c ∷ cs) = shown c ++ further cs

-- a line is its columns and one line feed
unfoldable pub rendered : List Column → List ℕ
rendered cs = joined cs ++ (line_feed ∷ [])

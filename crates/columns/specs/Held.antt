-- A line under construction.
use Rattle.std.specs.Prelude.{◌≡◌, List, ◌++◌, ℕ, ◌-◌, ◌≤◌, length, take, replicate}
use Rattle.columns.specs.declared.Line.TheInside.{Inside}

-- its room, and what it holds: its first len bytes
abbrev pub room : ℕ
room = 640

abbrev pub held : Inside → List ℕ
held l = take l.len l.bytes

-- the line that holds a text: zeros stand behind it, so that what a line holds tells all of it
abbrev pub line_of : List ℕ → Inside
line_of xs = record { bytes = xs ++ replicate (room - length xs) 0; len = length xs }

abbrev pub IsLine : Inside → Type 0
IsLine l = (l.len ≤ room) × (l ≡ line_of (held l))

-- what it keeps of a text
unfoldable pub clip : List ℕ → List ℕ
clip xs = take room xs

-- bs begins with what l holds
pub record Shows (l bs : List ℕ) : Type 0 where
  pub shows : take (length l) bs ≡ l

-- r holds x, as far as there is room
pub record HoldsText (x r : List ℕ) : Type 0 where
  pub holds : r ≡ clip x

-- r holds what l holds and then x, as far as there is room
pub record Adds (l x r : List ℕ) : Type 0 where
  pub adds : r ≡ clip (l ++ x)

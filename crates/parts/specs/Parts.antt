-- A file read in parts: document 01, "What the bureau's reader does".
use Rattle.std.specs.Prelude.{ℕ, ◌+◌, Bool, true, false, List, [], ◌∷◌, ◌++◌, eqb, drop}
use Rattle.book.specs.Walk.{Walk, walk_of}

-- a part has at most 64 KiB, with the bytes that open it
abbrev pub part_room : ℕ
part_room = 65536

-- what a walk leaves: the bytes from the position where it stopped
abbrev pub left_of : List ℕ → List ℕ
left_of s = drop (walk_of s 0).at s

-- a walk that stops where it starts
abbrev pub stopped : ℕ → Walk
stopped a = record { messages = []; at = 0; answer = a }

-- a walk, and then another from where it stopped
abbrev pub onward : Walk → Walk → Walk
onward w next = record { messages = w.messages ++ next.messages; at = w.at + next.at; answer = next.answer }

-- did the walk over a part meet a Msg Size below 4? Then nothing more of the file is looked at
unfoldable pub unless_small : Bool → Walk → Walk → Walk
unless_small true w next = w
unless_small false w next = onward w next

-- what is left of the parts before opens the next one; where no part follows, the file has ended, and the answer is 1
unfoldable pub walk_from : List ℕ → List (List ℕ) → Walk
walk_from left [] = stopped 1
walk_from left (p ∷ ps) = unless_small (eqb (walk_of (left ++ p) 0).answer 2) (walk_of (left ++ p) 0) (walk_from (left_of (left ++ p)) ps)

-- the walk over a file in parts: its messages, the position in the file where it stops, and the answer there
unfoldable pub walk_parts : List (List ℕ) → Walk
walk_parts ps = walk_from [] ps

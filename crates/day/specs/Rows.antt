-- A day in symbol ABC: document 01's lettered cases. A to K are rows, L is a line of the page, and `Day` is all of them.
use Rattle.std.specs.Prelude as answers
use Rattle.std.specs.Prelude.{ℕ, ◌≤◌, List, [], ◌∷◌, ◌++◌, ◌≡◌, length, take, drop}
use Rattle.wire.specs.Outcome.{done, only}
use Rattle.wire.specs.Reading.{reach_of, read_as, read_of}
use Rattle.wire.specs.Writing.{leaving}
use Rattle.markets.specs.declared.Market.{Market}
use Rattle.book.specs.State.{View, view, Wf}
use Rattle.book.specs.Quote.{no_quote, quote_of}
use Rattle.book.specs.Walk.{landing, move_of, steps_of, Moves}
use Rattle.book.specs.declared.Book.{Book}
use Rattle.book.specs.declared.walk.Moved.{Moved}
use Rattle.book.specs.declared.quote.Quote.{Quote}
use Rattle.page.specs.declared.LineError.{LineError}
use Rattle.page.specs.Printing.{printed, line_of, told}
use Rattle.page.specs.Marked as marked
use Rattle.demands.specs.Demand3.{Reads}
use Rattle.demands.specs.Examples.{HasABC, view_abc}
use Rattle.demands.specs.Messages.{index, buy, add, delete, execute, replace, clear, shows, no_level, ◌at◌}

-- what a call of `apply` at the start of some bytes answers, how far it moves, and what is then quoted of ABC
pub record Result : Type 0 where
  pub answer : ℕ
  pub moves : ℕ
  pub quote : Quote

-- A row: after these messages, starting from a new state of any market with ABC registered, these bytes come to this
pub record Row : Type 0 where
  pub after : List (List ℕ)
  pub bytes : List ℕ
  pub result : Result

-- by the rules that the contracts of `apply` and `quote` cite
abbrev pub result_of : View → List ℕ → Result
result_of v s = record { answer = (move_of v s 0).answer; moves = landing (reach_of (drop 0 s)) 0; quote = quote_of index (move_of v s 0).view }

abbrev pub ByRule : Row → Type 0
ByRule r = (market : Market) → result_of (steps_of (view_abc market) r.after) r.bytes ≡ r.result

-- for any states that the calls hand back
pub record ByCalls (r : Row) : Type 0 where
  pub by_calls : {market : Market} {b c : Book} {m : Moved} → HasABC market b → Reads b r.after c → Moves c r.bytes 0 m
      → record { answer = m.answer; moves = m.at; quote = quote_of index (view m.book) } ≡ r.result

abbrev pub AllRows : (Row → Type 0) → List Row → Type 0
AllRows P [] = Unit {0}
AllRows P (r ∷ rs) = P r × AllRows P rs

abbrev pub row : List (List ℕ) → List ℕ → ℕ → ℕ → Quote → Row
row after bytes answer moves quote = record { after = after; bytes = bytes; result = record { answer = answer; moves = moves; quote = quote } }

-- ---- the messages of the day
abbrev pub message_c : List ℕ
message_c = add 1 1001 buy 1234500 200

abbrev pub message_d : List ℕ
message_d = add 2 1002 buy 1234500 50

abbrev pub message_e : List ℕ
message_e = execute 3 1001 1 1234400 200

abbrev pub message_f : List ℕ
message_f = replace 4 1002 1002 buy 1235000 70

abbrev pub message_g : List ℕ
message_g = delete 6 1002

abbrev pub message_h : List ℕ
message_h = delete 5 1002

abbrev pub message_i : List ℕ
message_i = clear 9

abbrev pub message_j : List ℕ
message_j = add 8 1003 buy 1234500 100

abbrev pub messages : List (List ℕ)
messages = message_c ∷ message_d ∷ message_e ∷ message_f ∷ message_g ∷ message_h ∷ message_i ∷ message_j ∷ []

-- so many of them
abbrev pub the_first : ℕ → List (List ℕ)
the_first n = take n messages

-- ---- the rows: after, bytes, answer, moves, quote
abbrev pub rows : List Row
rows =
    -- A: empty input
    row [] [] 1 0 (shows no_level no_level)
    -- B: Msg Size 3
    ∷ row [] (3 ∷ 0 ∷ 100 ∷ 0 ∷ []) 2 0 (shows no_level no_level)
    -- C
    ∷ row [] message_c 0 39 (shows (200 at 1234500) no_level)
    -- D
    ∷ row (the_first 1) message_d 0 39 (shows (250 at 1234500) no_level)
    -- E
    ∷ row (the_first 2) message_e 0 42 (shows (50 at 1234500) no_level)
    -- F
    ∷ row (the_first 3) message_f 0 42 (shows (70 at 1235000) no_level)
    -- G: a gap, and a quote answers 8
    ∷ row (the_first 4) message_g 7 25 (no_quote 8)
    -- H: the number that was missing
    ∷ row (the_first 5) message_h 8 25 (no_quote 8)
    -- I: the clear
    ∷ row (the_first 6) message_i 0 20 (shows no_level no_level)
    -- J: a number below the one that the clear gave, and then that one
    ∷ row (the_first 7) message_j 6 39 (shows no_level no_level)
    ∷ row (the_first 8) (add 9 1003 buy 1234500 100) 0 39 (shows (100 at 1234500) no_level)
    -- K: in F's state, one share too many, and all of them
    ∷ row (the_first 4) (execute 5 1002 2 1235000 71) 9 42 (no_quote 8)
    ∷ row (the_first 4) (execute 5 1002 2 1235000 70) 0 42 (shows no_level no_level)
    ∷ []

-- ---- L: the line of #3, an add, read from its bytes, into any buffer that has room
pub record LineL : Type 0 where
  pub reads : (market : Market) → read_of market (add 3 1001 buy 1234500 200) ≡ read_as (only (done marked.add)) marked.firm
  pub by_calls : {market : Market} {b : Book} (p : answers.Result ℕ LineError) (out after : List ℕ) → HasABC market b → (Wf b → printed p after ≡ line_of (view b).market (told b marked.add) marked.add marked.firm marked.sequence_l marked.second_l out)
      → length marked.line_l ≤ length out → printed p after ≡ leaving (only (done (length marked.line_l))) (marked.line_l ++ drop (length marked.line_l) out)

-- ---- all of the day
pub record Day : Type 0 where
  pub a_to_k : AllRows ByCalls rows
  pub l : LineL

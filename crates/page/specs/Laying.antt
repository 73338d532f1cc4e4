-- Laying the texts of messages one behind the other, into a buffer of some size: until the walk stops, or the next text might not fit.
use Rattle.std.specs.Prelude.{◌≡◌, ℕ, ◌+◌, ◌-◌, ◌<◌, ◌≤◌, cond, List, [], ◌∷◌, ◌++◌, length, take, drop, ◌≢◌, nat_lt}
use Rattle.wire.specs.Outcome.{done}
use Rattle.wire.specs.Reading.{reach_of}
use Rattle.markets.specs.declared.Market.{Market}
use Rattle.symbols.specs.State.{itself, found_in, entries}
use Rattle.symbols.specs.Registering.{told_of}
use Rattle.symbols.specs.declared.Symbols.{Symbols}
use Rattle.book.specs.State.{View, view, Wf}
use Rattle.book.specs.Registering.{told_in}
use Rattle.book.specs.Step.{step_in}
use Rattle.book.specs.Walk.{walk_of, steps_of, answers_of, walk_up_to}
use Rattle.book.specs.declared.Book.{Book}
use Rattle.book.specs.declared.walk.Noted.{Noted}
use Rattle.columns.specs.Held.{room}
use Rattle.page.specs.Printing.{last_second, Appends}
use Rattle.page.specs.Printout.{passed_text, next_place}
use Rattle.page.specs.declared.laying.Texts.{Texts}
use Rattle.page.specs.declared.laying.Laid.{Laid}

-- after the messages laid: the view, where the next message starts, the place of the last one, and the texts
pub record Sheet : Type 0 where
  pub view : View
  pub at : ℕ
  pub place : ℕ
  pub text : List ℕ

-- one message more
abbrev pub more : ℕ → Sheet → List ℕ → Sheet
more second s m = record {
  view = (step_in s.view m).view;
  at = s.at + length m;
  place = next_place s.place;
  text = s.text ++ passed_text s.view.market (step_in s.view m) m (next_place s.place) second;
}

-- and why it ended: the answer that stopped the walk, or 15
pub record Laying : Type 0 where
  pub sheet : Sheet
  pub answer : ℕ

abbrev pub ended : Sheet → ℕ → Laying
ended s answer = record { sheet = s; answer = answer }

-- no text is longer than a line's room
unfoldable pub lay_from : ℕ → ℕ → ℕ → Sheet → List (List ℕ) → Laying
lay_from second size stop s [] = ended s stop
lay_from second size stop s (m ∷ ms) = cond (nat_lt (size - length s.text) room) (ended s 15) (lay_from second size stop (more second s m) ms)

unfoldable pub lay_of : ℕ → ℕ → View → List ℕ → ℕ → ℕ → Laying
lay_of second size v part at place = lay_from second size (walk_of part at).answer (record { view = v; at = at; place = place; text = [] }) (walk_of part at).messages

-- ---- what the call promises: the next state is sound and has the laying's view, the texts stand at the front of the buffer, and behind them all is as it was
pub record Sets (x : Laying) (before : List ℕ) (r : Laid) (after : List ℕ) : Type 0 where
  pub wf : Wf r.book
  pub next_view : view r.book ≡ x.sheet.view
  pub at : r.at ≡ x.sheet.at
  pub place : r.place ≡ x.sheet.place
  pub count : r.count ≡ length x.sheet.text
  pub answer : r.answer ≡ x.answer
  pub out : after ≡ x.sheet.text ++ drop (length x.sheet.text) before

-- past the last second of the day nothing is laid; bytes beyond the count, the market, and a state that met no message, stay whatever they were
pub record Lays (b : Book) (part : List ℕ) (from place second : ℕ) (before : List ℕ) (r : Laid) (after : List ℕ) : Type 0 where
  pub late : last_second < second → (r ≡ record { book = b; at = from; place = place; count = 0; answer = 14 }) × (after ≡ before)
  pub beyond : drop r.count after ≡ drop r.count before
  pub kept : r.at ≡ from → r.book ≡ b
  pub market : (view r.book).market ≡ (view b).market
  pub obeys : second ≤ last_second → Wf b → Sets (lay_of second (length before) (view b) part from place) before r after

-- ---- the same by notes: what is said of its pieces. Nothing from here on need be believed
-- these messages are passed, one behind the other, from one position to another
pub data Passes (s : List ℕ) (from : ℕ) : List (List ℕ) → ℕ → Type 0 where
  none_yet : Passes s from [] from
  one_more : {ms : List (List ℕ)} {here n : ℕ} → Passes s from ms here → reach_of (drop here s) ≡ done n → Passes s from (ms ++ (take n (drop here s) ∷ [])) (here + n)

-- the symbols by themselves tell what a view tells
abbrev pub Tells : Symbols → View → Type 0
Tells names v = (index : ℕ) → told_of (found_in itself index (entries names)) ≡ told_in index v

-- each message's answer stands in the notes, in turn
pub record Answered (v : View) (ms : List (List ℕ)) (notes : List ℕ) : Type 0 where
  pub rest : List ℕ
  pub are : notes ≡ answers_of v ms ++ rest

-- the buffer: what stands at its front, and behind that what stood there before
pub record Front (before text : List ℕ) (n : ℕ) (out : List ℕ) : Type 0 where
  pub long : length text ≡ n
  pub within : n ≤ length before
  pub shown : out ≡ text ++ drop n before

-- one message: its text, whatever the view is that tells its symbol's name
pub record LaysOne (market : Market) (names : Symbols) (message : List ℕ) (answer place second at : ℕ) (before : List ℕ) (r : ℕ) (after : List ℕ) : Type 0 where
  pub text : List ℕ
  pub short : length text ≤ room
  pub appends : Appends text at before r after
  pub told : (v : View) → Tells names v → text ≡ passed_text market (record { view = v; answer = answer }) message place second

abbrev pub sheet_of : View → ℕ → ℕ → List ℕ → Sheet
sheet_of v at place text = record { view = v; at = at; place = place; text = text }

-- some messages: laying goes on behind them as from the start
pub record SoFar (market : Market) (names : Symbols) (s : List ℕ) (from : ℕ) (notes : List ℕ) (place second : ℕ) (before : List ℕ) (filled : ℕ) (here p n j : ℕ) (after : List ℕ) : Type 0 where
  pub passed : List (List ℕ)
  pub passes : Passes s from passed here
  pub laid : length passed ≡ j
  pub most : j ≤ length notes
  pub inside : filled ≤ length before
  pub text : List ℕ
  pub front : Front before (take filled before ++ text) n after
  pub same : (v : View) → market ≡ v.market → Tells names v → Answered v passed notes → (first : List ℕ) → length first ≡ filled → (stop : ℕ) (rest : List (List ℕ))
      → lay_from second (length before) stop (sheet_of v from place first) (passed ++ rest) ≡ lay_from second (length before) stop (sheet_of (steps_of v passed) here p (first ++ text)) rest

-- and it goes on as long as there is a note, room and a message
pub record LaysNoted (market : Market) (names : Symbols) (s : List ℕ) (from : ℕ) (notes : List ℕ) (place second : ℕ) (before : List ℕ) (filled : ℕ) (r : Texts) (after : List ℕ) : Type 0 where
  pub so_far : SoFar market names s from notes place second before filled r.at r.place r.count r.laid after
  pub ends : r.laid < length notes → room ≤ length before - r.count → (n : ℕ) → reach_of (drop r.at s) ≢ done n

-- the run over at most so many messages
pub record RunsSome (b : Book) (s : List ℕ) (from most : ℕ) (r : Noted) : Type 0 where
  pub at : r.at ≡ (walk_up_to most s from).at
  pub market : (view r.book).market ≡ (view b).market
  pub kept : r.at ≡ from → r.book ≡ b
  pub wf : Wf b → Wf r.book
  pub next_view : Wf b → view r.book ≡ steps_of (view b) (walk_up_to most s from).messages

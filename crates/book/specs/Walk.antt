-- The walk over a stream: document 01, "What the bureau's reader does", answers 1 and 2. Where it goes hangs on the bytes alone.
use Rattle.std.specs.Prelude.{ℕ, zero, suc, ◌+◌, List, [], ◌∷◌, Bool, true, false, ◌≡◌, length, take, drop}
use Rattle.std.proofs.lemmas.List.Edits.{sets}
use Rattle.wire.specs.Outcome.{Outcome, done, refused, number_of}
use Rattle.wire.specs.Reading.{reach_of, read_of}
use Rattle.markets.specs.declared.Market.{Market}
use Rattle.book.specs.State.{View, Next, view, Wf}
use Rattle.book.specs.Step.{refusing, step_in}
use Rattle.book.specs.Promises.{unchanging, Obeys}
use Rattle.book.specs.declared.Book.{Book}
use Rattle.book.specs.declared.walk.Moved.{Moved}
use Rattle.book.specs.declared.walk.Ran.{Ran}
use Rattle.book.specs.declared.walk.Noted.{Noted}

-- ---- one message: too few bytes or a Msg Size below 4 doesn't move and stops; a message of n bytes moves by n
abbrev pub landing : Outcome ℕ → ℕ → ℕ
landing (refused a) at = at
landing (done n) at = at + n

abbrev pub stopping : Outcome ℕ → Bool
stopping (refused a) = true
stopping (done n) = false

-- the offset of the first bad field in the message there; 0 where nothing reaches
abbrev pub offset_by : Outcome ℕ → Market → List ℕ → ℕ → ℕ
offset_by (refused a) market s at = 0
offset_by (done n) market s at = (read_of market (take n (drop at s))).offset

abbrev pub move_by : Outcome ℕ → View → List ℕ → ℕ → Next
move_by (refused a) v s at = refusing v a
move_by (done n) v s at = step_in v (take n (drop at s))

unfoldable pub move_of : View → List ℕ → ℕ → Next
move_of v s at = move_by (reach_of (drop at s)) v s at

-- ---- all of it: the messages that stand end to end from a position, where they end, and the answer there
pub record Walk : Type 0 where
  pub messages : List (List ℕ)
  pub at : ℕ
  pub answer : ℕ

abbrev pub walk_by : Outcome ℕ → List ℕ → ℕ → (ℕ → Walk) → Walk
walk_by (refused a) s at go = record { messages = []; at = at; answer = a }
walk_by (done n) s at go = record { messages = take n (drop at s) ∷ (go (at + n)).messages; at = (go (at + n)).at; answer = (go (at + n)).answer }

-- at most f messages
unfoldable pub walk_for : ℕ → List ℕ → ℕ → Walk
walk_for zero s at = record { messages = []; at = at; answer = 1 }
walk_for (suc f) s at = walk_by (reach_of (drop at s)) s at (λ e. walk_for f s e)

-- a message has four bytes or more, so that there are never more messages than bytes
unfoldable pub walk_of : List ℕ → ℕ → Walk
walk_of s at = walk_for (suc (length s)) s at

-- ---- at most so many of them: where there is one more, the answer is 15
abbrev pub stop_or : Outcome ℕ → ℕ
stop_or (refused a) = a
stop_or (done n) = 15

unfoldable pub walk_up_to : ℕ → List ℕ → ℕ → Walk
walk_up_to zero s at = record { messages = []; at = at; answer = stop_or (reach_of (drop at s)) }
walk_up_to (suc f) s at = walk_by (reach_of (drop at s)) s at (λ e. walk_up_to f s e)

-- a message that is all there has as many bytes as its Msg Size says
abbrev pub CompleteMessage : List ℕ → Type 0
CompleteMessage m = reach_of m ≡ done (length m)

abbrev pub AllComplete : List (List ℕ) → Type 0
AllComplete [] = Unit {0}
AllComplete (m ∷ ms) = CompleteMessage m × AllComplete ms

-- ---- the run: the step over each message in turn
unfoldable pub steps_of : View → List (List ℕ) → View
steps_of v [] = v
steps_of v (m ∷ ms) = steps_of (step_in v m).view ms

-- the answer to each message, in turn
unfoldable pub answers_of : View → List (List ℕ) → List ℕ
answers_of v [] = []
answers_of v (m ∷ ms) = (step_in v m).answer ∷ answers_of (step_in v m).view ms

unfoldable pub run_of : View → List ℕ → ℕ → Next
run_of v s at = record { view = steps_of v (walk_of s at).messages; answer = (walk_of s at).answer }

-- ---- what the calls promise. Position, offset, stop and market are promised of any state
pub record Moves (b : Book) (s : List ℕ) (from : ℕ) (r : Moved) : Type 0 where
  pub at : r.at ≡ landing (reach_of (drop from s)) from
  pub offset : r.offset ≡ offset_by (reach_of (drop from s)) (view b).market s from
  pub stops : r.stops ≡ stopping (reach_of (drop from s))
  pub market : (view r.book).market ≡ (view b).market
  pub stopped : r.stops ≡ true → r ≡ record { book = b; at = from; answer = number_of (reach_of (drop from s)); offset = 0; stops = true }
  pub kept : unchanging r.answer ≡ true → r.book ≡ b
  pub obeys : Wf b → Obeys (move_of (view b) s from) r.book r.answer

pub record Runs (b : Book) (s : List ℕ) (from : ℕ) (r : Ran) : Type 0 where
  pub at : r.at ≡ (walk_of s from).at
  pub answer : r.answer ≡ (walk_of s from).answer
  pub market : (view r.book).market ≡ (view b).market
  pub kept : r.at ≡ from → r.book ≡ b
  pub obeys : Wf b → Obeys (run_of (view b) s from) r.book r.answer

-- a run that notes answers: of the messages that it passed, at most `most`, each has its answer in the notes, in turn, as far as these reach; the rest of them stays
pub record NotesRight (b : Book) (messages : List (List ℕ)) (before : List ℕ) (c : Book) (after : List ℕ) : Type 0 where
  pub wf : Wf c
  pub next_view : view c ≡ steps_of (view b) messages
  pub noted : after ≡ sets before 0 (answers_of (view b) messages)

pub record NotesUpTo (b : Book) (s : List ℕ) (from most : ℕ) (before : List ℕ) (r : Noted) (after : List ℕ) : Type 0 where
  pub at : r.at ≡ (walk_up_to most s from).at
  pub answer : r.answer ≡ (walk_up_to most s from).answer
  pub count : r.count ≡ length (walk_up_to most s from).messages
  pub market : (view r.book).market ≡ (view b).market
  pub kept : r.at ≡ from → r.book ≡ b
  pub beyond : drop r.count after ≡ drop r.count before
  pub obeys : Wf b → NotesRight b (walk_up_to most s from).messages before r.book after

-- as many as there is room for
abbrev pub Notes : Book → List ℕ → ℕ → List ℕ → Noted → List ℕ → Type 0
Notes b s from before r after = NotesUpTo b s from (length before) before r after

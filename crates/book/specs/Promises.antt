-- What a call that changes the state promises.
use Rattle.std.specs.Prelude.{Bool, true, false, [], ◌∷◌, ◌≡◌, ℕ, ◌+◌, ◌<◌, set, Result, Ok, Err}
use Rattle.std.proofs.Math.Option.{some}
use Rattle.feed.specs.Reader.{ruled, numbered}
use Rattle.places.specs.Places.{symbols, among}
use Rattle.symbols.specs.State.{numbers, Entry}
use Rattle.symbols.specs.Answers.{turn_number}
use Rattle.symbols.specs.Turns.{staled}
use Rattle.symbols.specs.Promises.{Alters}
use Rattle.symbols.specs.declared.turns.TurnError.{TurnError}
use Rattle.orders.specs.Rules.{apply_to}
use Rattle.orders.specs.declared.Change.{Change}
use Rattle.record.specs.declared.Deal.{Deal}
use Rattle.book.specs.State.{Symbol, View, with_places, Next, entry_at, orders_at, record_at, symbol_of, view, place_in, symbol_in, Wf}
use Rattle.book.specs.Step.{becomes, change_of, deal_of, symbol_made_stale, enacted, put, act_on}
use Rattle.book.specs.declared.Book.{Book}
use Rattle.book.specs.declared.Done.{Done}
use Rattle.book.specs.declared.acts.Effect.{Effect}
use Rattle.places.specs.declared.seats.Seat.{Seat}

-- the answers that change nothing
abbrev pub unchanging : ℕ → Bool
unchanging a = among a (1 ∷ 2 ∷ 3 ∷ 4 ∷ 5 ∷ 6 ∷ 8 ∷ 11 ∷ 12 ∷ 13 ∷ [])

-- the answers that make a symbol stale
abbrev pub staling : ℕ → Bool
staling a = among a (7 ∷ 9 ∷ 10 ∷ [])

-- the symbol with this index becomes stale and its record loses the mark; nothing else changes, of it or of another
pub record BecomesStale (v : View) (index : ℕ) (w : View) : Type 0 where
  pub symbol : Symbol
  pub there : symbol_in index v ≡ some symbol
  pub next_view : w ≡ with_places v (set v.places (place_in index v) (some (symbol_made_stale symbol)))

-- its number is used and the mark goes; nothing else of it changes
abbrev pub left_out : Symbol → Symbol
left_out s = becomes s (record { expected = s.entry.standing.expected + 1; stale = s.entry.standing.stale; whole = false }) s.orders s.kept

-- the next state is sound, its view is the rule's, and so is the answer
pub record Obeys (x : Next) (b : Book) (a : ℕ) : Type 0 where
  pub wf : Wf b
  pub next_view : view b ≡ x.view
  pub answer : a ≡ x.answer

-- whatever the state was, its market stays, and with an answer that changes nothing it is the one handed in
pub record Steps (b : Book) (x : Next) (r : Done) : Type 0 where
  pub market : (view r.book).market ≡ (view b).market
  pub kept : unchanging r.answer ≡ true → r.book ≡ b
  pub obeys : Wf b → Obeys x r.book r.answer

-- ---- place k has a symbol, whose expected number is one that a message can carry
pub record Awaits (b : Book) (k : ℕ) : Type 0 where
  pub place : k < symbols
  pub entry : Entry
  pub there : entry_at b k ≡ some entry
  pub expected : entry.standing.expected < numbers

-- the symbol at place k becomes stale, and its record loses the mark
pub record MakesStale (b : Book) (k a : ℕ) (r : Done) : Type 0 where
  pub symbols : Alters b.symbols k staled r.book.symbols
  pub orders : r.book.orders ≡ b.orders
  pub trades : r.book.trades ≡ b.trades
  pub market : r.book.market ≡ b.market
  pub answer : r.answer ≡ a

-- a change of the orders and a deal with the record: both are done, or the symbol becomes stale. Something changes, at place k alone
pub record Enacts (b : Book) (k : ℕ) (c : Change) (d : Deal) (r : Done) : Type 0 where
  pub market : (view r.book).market ≡ (view b).market
  pub changes : unchanging r.answer ≡ false
  pub obeys : (t : Awaits b k) → Wf b
      → Obeys (put (view b) k (enacted (symbol_of t.entry (orders_at b k) (record_at b k)) d (ruled false false false (apply_to (orders_at b k) c)))) r.book r.answer

-- so with a message in its turn
abbrev pub Settles : Book → ℕ → Effect → Done → Type 0
Settles b k e r = Enacts b k (change_of e) (deal_of e) r

-- a numbered message is in its turn, and what settles it at this seat is its step; or it is refused, and that is its step whatever it does
abbrev pub InTurn : Book → ℕ → ℕ → Book → Result Seat TurnError → Type 0
InTurn b index n a (Ok s) = (a ≡ b) × ((e : Effect) (r : Done) → Settles b s.place e r → Steps b (act_on (view b) (numbered index n e)) r)
InTurn b index n a (Err t) = (e : Effect) → Steps b (act_on (view b) (numbered index n e)) (record { book = a; answer = turn_number t })

-- Demand 1 of document 00, for a host's programmer: the numbers that each call answers with, where a bad field stands (M-111), what a refusal leaves, and how far each
-- answer moves.
use Rattle.std.specs.Prelude as answers
use Rattle.std.specs.Prelude.{None, Result, ℕ, ◌+◌, ◌≤◌, ◌<◌, true, false, List, [], ◌∷◌, ◌≢◌, ◌≡◌, length, drop, replicate}
use Rattle.std.proofs.Math.Option.{Option}
use Rattle.wire.specs.Outcome.{done, refused, number_of}
use Rattle.wire.specs.Bytes.{plain_room}
use Rattle.wire.specs.Reading.{least_size, msg_size, reach_of, read_of}
use Rattle.wire.specs.Writing.{Write, count_of, Fills, write_of}
use Rattle.wire.specs.Message.{bad_field_of}
use Rattle.wire.specs.FirstBad.{FirstBadIn, FirstBadOf, Locates}
use Rattle.wire.specs.declared.Message.{Message}
use Rattle.markets.specs.declared.Market.{Market}
use Rattle.feed.specs.Reader.{index_of}
use Rattle.places.specs.Places.{among, sum_by}
use Rattle.symbols.specs.State.{Entry}
use Rattle.symbols.specs.Registering.{told_of}
use Rattle.symbols.specs.Turns.{turn_at}
use Rattle.symbols.specs.Answers.{answered, register_number}
use Rattle.symbols.specs.Promises.{after, Registers}
use Rattle.symbols.specs.declared.Symbols.{Symbols}
use Rattle.symbols.specs.declared.registering.RegisterError.{RegisterError}
use Rattle.orders.specs.Promises.{fit_number, Changes}
use Rattle.orders.specs.declared.Orders.{Orders}
use Rattle.orders.specs.declared.Unfit.{Unfit}
use Rattle.orders.specs.declared.Change.{Change}
use Rattle.record.specs.Promises.{Dealt, Deals}
use Rattle.record.specs.declared.Record.{Record}
use Rattle.record.specs.declared.Deal.{Deal}
use Rattle.symbols.specs.declared.registering.Listing.{Listing}
use Rattle.book.specs.State.{view, live_in}
use Rattle.book.specs.Promises.{BecomesStale, Steps}
use Rattle.book.specs.Registering.{register_of, told_number, told_in}
use Rattle.book.specs.Quote.{no_quote, volume_of}
use Rattle.book.specs.Step.{meant}
use Rattle.book.specs.Walk.{move_of, walk_of, steps_of, Moves, Runs}
use Rattle.book.specs.Reached.{Alike}
use Rattle.book.specs.declared.Book.{Book}
use Rattle.book.specs.declared.Done.{Done}
use Rattle.book.specs.declared.walk.Moved.{Moved}
use Rattle.book.specs.declared.walk.Ran.{Ran}
use Rattle.columns.specs.Held.{room}
use Rattle.page.specs.Printing.{laid, line_of, FirstBadOn, told}
use Rattle.page.specs.Printout.{closing}
use Rattle.page.specs.Laying.{Lays}
use Rattle.page.specs.declared.laying.Laid.{Laid}
use Rattle.demands.specs.Demand3.{StandsAt, quote_in}

-- ---- the numbers: a call answers with one of its own, and where a rule decides which, with the rule's
abbrev pub OneOf : List ℕ → ℕ → Type 0
OneOf numbers answer = among answer numbers ≡ true

pub record Answers (numbers : List ℕ) (rule answer : ℕ) : Type 0 where
  pub one_of : OneOf numbers answer
  pub by_rule : answer ≡ rule

-- `wire`: how far a message reaches, reading one, testing the fields of one, and writing one, whose type is always known
pub record WireNumbers : Type 0 where
  pub reaching : (s : List ℕ) → OneOf (0 ∷ 1 ∷ 2 ∷ []) (number_of (reach_of s))
  pub reading : (market : Market) (s : List ℕ) → OneOf (0 ∷ 1 ∷ 2 ∷ 3 ∷ 4 ∷ []) (number_of (read_of market s).outcome)
  pub testing : (market : Market) (m : Message) (plain : List ℕ) → OneOf (0 ∷ 4 ∷ []) (number_of (bad_field_of market m plain).outcome)
  pub writing : (market : Market) (m : Message) (plain out : List ℕ) → OneOf (0 ∷ 4 ∷ 15 ∷ []) (number_of (write_of market m plain out).outcome)

-- `book`: registering, a message, a run, and the questions
pub record BookNumbers (b : Book) : Type 0 where
  pub registering : {r : Done} (index : ℕ) (name : List ℕ) (scale : ℕ) → Steps b (register_of (view b) index name scale) r → Answers (0 ∷ 11 ∷ 12 ∷ 13 ∷ []) (register_of (view b) index name scale).answer r.answer
  pub applying : {s : List ℕ} {at : ℕ} {r : Moved} → Moves b s at r → Answers (0 ∷ 1 ∷ 2 ∷ 3 ∷ 4 ∷ 5 ∷ 6 ∷ 7 ∷ 8 ∷ 9 ∷ 10 ∷ []) (move_of (view b) s at).answer r.answer
  pub running : {s : List ℕ} {at : ℕ} {r : Ran} → Runs b s at r → Answers (1 ∷ 2 ∷ []) (walk_of s at).answer r.answer
  pub quoting : (index : ℕ) → OneOf (0 ∷ 5 ∷ 8 ∷ []) (quote_in b index).answer
  pub summing : (index : ℕ) → OneOf (0 ∷ 5 ∷ []) (volume_of index (view b)).answer
  pub telling : {r : answers.Option Listing} (index : ℕ) → r ≡ told_in index (view b) → OneOf (0 ∷ 5 ∷ []) (told_number r)

-- the rooms: registering, what is told, whether a number is in its turn, and whether a change fits
pub record RoomNumbers : Type 0 where
  pub registering : {b : Symbols} {r : Result Symbols RegisterError} (index : ℕ) (name : List ℕ) (scale : ℕ) → Registers b index name scale r → OneOf (0 ∷ 11 ∷ 12 ∷ 13 ∷ []) (answered register_number r)
  pub telling : (e : Option Entry) → OneOf (0 ∷ 5 ∷ []) (told_number (told_of e))
  pub turning : (e : Option Entry) (number : ℕ) → OneOf (0 ∷ 5 ∷ 6 ∷ 7 ∷ 8 ∷ []) (turn_at e number)
  pub fitting : (r : Result (Unit {0}) Unfit) → OneOf (0 ∷ 9 ∷ 10 ∷ []) (fit_number r)

-- `page`: a line, a laying, and the end
pub record PageNumbers (b : Book) : Type 0 where
  pub printing : (m : Message) (plain : List ℕ) (sequence second : ℕ) (out : List ℕ) → OneOf (0 ∷ 3 ∷ 4 ∷ 5 ∷ 14 ∷ 15 ∷ []) (number_of (line_of (view b).market (told b m) m plain sequence second out).outcome)
  pub laying : {stream before after : List ℕ} {at place second : ℕ} {r : Laid} → Lays b stream at place second before r after → OneOf (1 ∷ 2 ∷ 14 ∷ 15 ∷ []) r.answer
  pub ending : (index answer : ℕ) (out : List ℕ) → OneOf (0 ∷ 15 ∷ []) (number_of (laid (closing (view b) index answer) out).outcome)

-- ---- where a bad field stands: where there is one, 4 is answered with the offset of the first one in its message; with every other number the offset is 0. A run hands
-- back no 4, nor does a laying
-- a message stands at the position, and its first bad field at this offset in it
pub record BadThere (market : Market) (s : List ℕ) (at offset : ℕ) : Type 0 where
  pub bytes : List ℕ
  pub stands : StandsAt s at bytes
  pub first : FirstBadIn market bytes offset

pub record Offsets (b : Book) : Type 0 where
  pub reading : (market : Market) (s : List ℕ) → Locates (FirstBadIn market s) (number_of (read_of market s).outcome) (read_of market s).offset
  pub testing : (market : Market) (m : Message) (plain : List ℕ) → Locates (FirstBadOf market m plain) (number_of (bad_field_of market m plain).outcome) (bad_field_of market m plain).offset
  pub writing : (market : Market) (m : Message) (plain out : List ℕ) → Locates (FirstBadOf market m plain) (number_of (write_of market m plain out).outcome) (write_of market m plain out).offset
  pub printing : (m : Message) (plain : List ℕ) (sequence second : ℕ) (out : List ℕ)
      → Locates (FirstBadOn (view b).market m plain) (number_of (line_of (view b).market (told b m) m plain sequence second out).outcome) (line_of (view b).market (told b m) m plain sequence second out).offset
  pub applying : {s : List ℕ} {at : ℕ} {r : Moved} → Moves b s at r → Locates (BadThere (view b).market s at) r.answer r.offset

-- ---- what a refusal leaves
-- refused, the buffer is as it was and the count 0; done, no byte beyond the count changes
pub record Printing (w : Write) (out : List ℕ) : Type 0 where
  pub refused_untouched : (number : ℕ) → w.outcome ≡ refused number → (w.out ≡ out) × (count_of w.outcome ≡ 0)
  pub beyond : drop (count_of w.outcome) w.out ≡ drop (count_of w.outcome) out

-- the output: a refused read and a refused write
pub record Buffers : Type 0 where
  -- no message is handed back, and zeros for its byte array
  pub reading : (market : Market) (s : List ℕ) (number : ℕ) → (read_of market s).outcome ≡ refused number → (read_of market s).plain ≡ replicate plain_room 0
  -- the buffer is as it was, and the count 0
  pub writing : (market : Market) (m : Message) (plain out : List ℕ) (number : ℕ) → (write_of market m plain out).outcome ≡ refused number → ((write_of market m plain out).out ≡ out) × (count_of (write_of market m plain out).outcome ≡ 0)
  -- refused or done, no byte beyond the count changes
  pub beyond : (market : Market) (m : Message) (plain out : List ℕ) → length plain ≡ plain_room → Fills out (write_of market m plain out)

-- the page: a refused line or end leaves the buffer as it was, with the count 0, and a done one every byte beyond its count
pub record Pages (b : Book) : Type 0 where
  pub printing : (m : Message) (plain : List ℕ) (sequence second : ℕ) (out : List ℕ) → Printing (line_of (view b).market (told b m) m plain sequence second out) out
  pub ending : (index answer : ℕ) (out : List ℕ) → Printing (laid (closing (view b) index answer) out) out
  -- a laying past the last second of the day hands back the state that came in, the position and the place, and leaves the buffer
  pub late : {stream before after : List ℕ} {at place second : ℕ} {r : Laid} → Lays b stream at place second before r after → r.answer ≡ 14
      → (r ≡ record { book = b; at = at; place = place; count = 0; answer = 14 }) × (after ≡ before)
  -- and whatever it answers, no byte beyond the count changes
  pub beyond : {stream before after : List ℕ} {at place second : ℕ} {r : Laid} → Lays b stream at place second before r after → drop r.count after ≡ drop r.count before
  -- 15 comes of too small a buffer alone: with room for one text a laying has moved on
  pub moves_on : {stream before after : List ℕ} {at place second : ℕ} {r : Laid} → Lays b stream at place second before r after → room ≤ length before → r.answer ≡ 15 → at < r.at

-- the message at the position was read; its symbol becomes stale and loses its mark, and nothing else changes
pub record LeavesStale (b : Book) (s : List ℕ) (at : ℕ) (r : Moved) : Type 0 where
  pub bytes : List ℕ
  pub stands : StandsAt s at bytes
  pub message : Message
  pub read : (read_of (view b).market bytes).outcome ≡ done message
  pub stale : BecomesStale (view b) (index_of (meant message)) (view r.book)

-- the book and the trade record, by the number that a message is refused with
pub record Refusals (b : Book) : Type 0 where
  -- 1 to 6 and 8: the state is the one that came in
  pub unchanged : {s : List ℕ} {at : ℕ} {r : Moved} → Moves b s at r → OneOf (1 ∷ 2 ∷ 3 ∷ 4 ∷ 5 ∷ 6 ∷ 8 ∷ []) r.answer → r.book ≡ b
  -- 7, 9 and 10: one symbol is stale, without its mark, and the rest is as it was
  pub made_stale : {s : List ℕ} {at : ℕ} {r : Moved} → Moves b s at r → OneOf (7 ∷ 9 ∷ 10 ∷ []) r.answer → LeavesStale b s at r
  -- so that none changes an order
  pub no_order_changes : {s : List ℕ} {at : ℕ} {r : Moved} → Moves b s at r → r.answer ≢ 0 → (index : ℕ) → live_in index (view r.book) ≡ live_in index (view b)

-- in the rooms: what is refused leaves the symbols or the orders as they came in, and where the mark goes the record
pub record Rooms : Type 0 where
  pub registering : {b : Symbols} {r : Result Symbols RegisterError} (index : ℕ) (name : List ℕ) (scale : ℕ) → Registers b index name scale r → answered register_number r ≢ 0 → after b r ≡ b
  pub changing : {b a : Orders} {c : Change} {r : Result (Unit {0}) Unfit} (k : ℕ) → Changes b k c a r → fit_number r ≢ 0 → a ≡ b
  pub dealing : {b : Record} {d : Deal} {r : Dealt} (k : ℕ) → Deals b k d r → r.lost ≡ true → r.trades ≡ b

-- the same of a registering and of a run
pub record States (b : Book) : Type 0 where
  -- a refused registering hands back the state that came in
  pub registering : {r : Done} (index : ℕ) (name : List ℕ) (scale : ℕ) → Steps b (register_of (view b) index name scale) r → r.answer ≢ 0 → r.book ≡ b
  -- what stops a run changes nothing: its state is what the messages passed make, each as `apply` does,
  pub running : {s : List ℕ} {from : ℕ} {r : Ran} → Runs b s from r → view r.book ≡ steps_of (view b) (walk_of s from).messages
  -- and where none is passed, the one that came in
  pub unmoved : {s : List ℕ} {from : ℕ} {r : Ran} → Runs b s from r → r.at ≡ from → r.book ≡ b

-- the questions, which hand back no state
pub record Questions (b : Book) : Type 0 where
  -- a refused quote shows none on both sides
  pub quoting : (index : ℕ) → (quote_in b index).answer ≢ 0 → quote_in b index ≡ no_quote (quote_in b index).answer
  -- a refused volume is 0 and not whole
  pub summing : (index : ℕ) → (volume_of index (view b)).answer ≢ 0 → volume_of index (view b) ≡ record { answer = 5; shares = 0; whole = false }
  -- of a symbol that is not registered nothing is told
  pub telling : {r : answers.Option Listing} (index : ℕ) → r ≡ told_in index (view b) → told_number r ≢ 0 → r ≡ None

-- ---- how far an answer moves: the bytes from the position on decide
-- fewer than four bytes remain, or Msg Size exceeds what remains
pub data TooFew (s : List ℕ) : Type 0 where
  no_size : length s < least_size → TooFew s
  cut : least_size ≤ msg_size s → length s < msg_size s → TooFew s

-- it answers this, doesn't move, and is where a run stops
pub record Stays (answer at : ℕ) (r : Moved) : Type 0 where
  pub number : r.answer ≡ answer
  pub position : r.at ≡ at
  pub stops : r.stops ≡ true

-- it moves by so many bytes, and a run goes on; too few bytes are not its answer
pub record Passes (size at : ℕ) (r : Moved) : Type 0 where
  pub number : r.answer ≢ 1
  pub position : r.at ≡ at + size
  pub goes_on : r.stops ≡ false

-- by the bytes: one of the three is met at every position
pub record Positions (b : Book) : Type 0 where
  -- too few bytes: 1, and it doesn't move
  pub short : {s : List ℕ} {at : ℕ} {r : Moved} → Moves b s at r → TooFew (drop at s) → Stays 1 at r
  -- Msg Size below 4: 2, and it doesn't move
  pub small : {s : List ℕ} {at : ℕ} {r : Moved} → Moves b s at r → least_size ≤ length (drop at s) → msg_size (drop at s) < least_size → Stays 2 at r
  -- a message that is all there: it moves by the Msg Size, whatever is answered
  pub there : {s : List ℕ} {at : ℕ} {r : Moved} → Moves b s at r → least_size ≤ msg_size (drop at s) → msg_size (drop at s) ≤ length (drop at s) → Passes (msg_size (drop at s)) at r

-- the same by the answer, and of a run
pub record Moving (b : Book) : Type 0 where
  -- 1 never moves
  pub one_stays : {s : List ℕ} {at : ℕ} {r : Moved} → Moves b s at r → r.answer ≡ 1 → Stays 1 at r
  -- every other answer but a 2 with a Msg Size below 4 has moved by the Msg Size
  pub others_move : {s : List ℕ} {at : ℕ} {r : Moved} → Moves b s at r → r.answer ≢ 1 → (r.answer ≡ 2 → least_size ≤ msg_size (drop at s)) → Passes (msg_size (drop at s)) at r
  -- a run has moved by the Msg Sizes passed,
  pub running : {s : List ℕ} {from : ℕ} {r : Ran} → Runs b s from r → r.at ≡ from + sum_by msg_size (walk_of s from).messages
  -- and the bytes there are why it stopped
  pub stopped : {s : List ℕ} {from : ℕ} {r : Ran} → Runs b s from r → reach_of (drop r.at s) ≡ refused r.answer

-- DEMAND 1, of every state that the calls can be given
pub record Demand1 (b : Book) : Type 0 where
  pub wire_numbers : WireNumbers
  pub room_numbers : RoomNumbers
  pub book_numbers : BookNumbers b
  pub page_numbers : PageNumbers b
  pub offsets : Offsets b
  pub buffers : Buffers
  pub pages : Pages b
  pub rooms : Rooms
  pub refusals : Refusals b
  pub states : States b
  pub questions : Questions b
  pub positions : Positions b
  pub moving : Moving b
  -- it is the same every time: called twice in this state, a call answers, moves and leaves alike
  pub same : Alike b b

-- Demand 2 of document 00, gathered: what is quoted of a state, and what a message does to it.
use Rattle.std.specs.Prelude.{None, ℕ, ◌+◌, ◌<◌, ◌≤◌, Bool, true, false, ◌≢◌, ◌≡◌, eqb, length, drop}
use mathlib.Core.List.{List, [], ◌∷◌, Memᴰ}
use Rattle.std.proofs.Math.Option.{none, some}
use Rattle.wire.specs.Outcome.{done, refused}
use Rattle.wire.specs.Bytes.{plain_room}
use Rattle.wire.specs.Message.{fields_of}
use Rattle.wire.specs.Reading.{msg_size, reach_of, read_of}
use Rattle.wire.specs.Writing.{write_of}
use Rattle.wire.specs.RoundTrip.{InRange, Bytes, ReadsBack, WritesBack}
use Rattle.wire.specs.declared.Head.{Head}
use Rattle.wire.specs.declared.Message.{Message}
use Rattle.markets.specs.declared.Market.{Market}
use Rattle.feed.specs.Reader.{index_of}
use Rattle.places.specs.Places.{count, look, sum_by}
use Rattle.orders.specs.State.{orders_each, order_number}
use Rattle.record.specs.State.{trades_each, crosses_each, trade_number, cross_number}
use Rattle.record.specs.Rules.{cross_of}
use Rattle.record.specs.declared.Cross.{Cross}
use Rattle.book.specs.State.{Symbol, view, symbol_in, live_in, crosses_in}
use Rattle.book.specs.Promises.{left_out, Obeys, Steps}
use Rattle.book.specs.Registering.{register_of}
use Rattle.orders.specs.Levels.{counts, shares_at, level_at, NoBetter, Attained, TakesOff}
use Rattle.book.specs.Quote.{volume_of, Replaces, side_of}
use Rattle.book.specs.Step.{buys, meant}
use Rattle.book.specs.Walk.{move_of, walk_of, run_of, Moves, Runs}
use Rattle.book.specs.declared.Book.{Book}
use Rattle.book.specs.declared.Done.{Done}
use Rattle.book.specs.declared.walk.Moved.{Moved}
use Rattle.book.specs.declared.walk.Ran.{Ran}
use Rattle.demands.specs.Demand3.{StandsAt, quote_in}

-- the message is not for the symbol; one that reading refuses is for nobody
abbrev pub NotFor : Market → ℕ → List ℕ → Type 0
NotFor market index m = (x : Message) → (read_of market m).outcome ≡ done x → index ≢ index_of (meant x)

-- ---- of a state: what it quotes and holds of a symbol
pub record OfSymbol (b : Book) (index : ℕ) (s : Symbol) : Type 0 where
  -- the size quoted is the exact sum over the live orders at the price,
  pub exact_sum : (buy : Bool) (price size : ℕ) → side_of buy (quote_in b index) ≡ level_at price size → size ≡ sum_by (shares_at buy price) s.orders
  -- a live order of its side stands at the price,
  pub attained : (buy : Bool) (price size : ℕ) → side_of buy (quote_in b index) ≡ level_at price size → Attained buy price s.orders
  -- no live order of its side is better,
  pub best_price : (buy : Bool) (price size : ℕ) → side_of buy (quote_in b index) ≡ level_at price size → (o : _) → Memᴰ o s.orders → counts buy o ≡ true → NoBetter buy price o.price
  -- and where a quote shows none on a side, none is live there
  pub none_live : (buy : Bool) → (quote_in b index).answer ≡ 0 → side_of buy (quote_in b index) ≡ None → (o : _) → Memᴰ o s.orders → counts buy o ≡ true → ⊥
  -- no more live orders than a symbol's places, and at most one of a number; of the kept trades and of the kept crosses likewise
  pub orders_within : length s.orders ≤ orders_each
  pub one_live : (number : ℕ) → count (λ o. eqb (order_number o) number) s.orders ≤ 1
  pub trades_within : length s.kept.trades ≤ trades_each
  pub one_kept : (number : ℕ) → count (λ t. eqb (trade_number t) number) s.kept.trades ≤ 1
  pub crosses_within : length s.kept.crosses ≤ crosses_each
  pub one_cross : (number : ℕ) → count (λ x. eqb (cross_number x) number) s.kept.crosses ≤ 1

-- ---- of auctions (M-102): a cross of a number that is kept, a cross where the list is full, and a correction of a cross that isn't kept are left out of the record of symbol x
pub data LeavesOut (x : Symbol) : Message → Type 0 where
  repeated : (head : Head) (cross price volume class : ℕ) (y : Cross) → look cross_number cross x.kept.crosses ≡ some y → LeavesOut x (Message.Cross head cross price volume class)
  full : (head : Head) (cross price volume class : ℕ) → crosses_each ≤ length x.kept.crosses → LeavesOut x (Message.Cross head cross price volume class)
  unknown : (head : Head) (cross volume : ℕ) → look cross_number cross x.kept.crosses ≡ none → LeavesOut x (Message.CrossCorrection head cross volume)

-- ---- of a message: what `apply` makes of it at a position
pub record OfMessage (b : Book) (s : List ℕ) (at : ℕ) (r : Moved) : Type 0 where
  -- it does what document 01 says: the next view and the answer are those of the rule
  pub effects : Obeys (move_of (view b) s at) r.book r.answer
  -- case D's rule: an add that is done at the best price raises the quoted size by its volume
  pub case_d : {m : List ℕ} (head : Head) (order price volume side size : ℕ) → StandsAt s at m → (read_of (view b).market m).outcome ≡ done (Message.Add head order price volume side) → r.answer ≡ 0
      → side_of (buys side) (quote_in b head.index) ≡ level_at price size → side_of (buys side) (quote_in r.book head.index) ≡ level_at price (size + volume)
  -- an execution that is done takes its volume off at the price and side of its order, which was live, whatever the price of the trade; the sum at every other stays
  pub execution : {m : List ℕ} (head : Head) (order trade price volume printable : ℕ) → StandsAt s at m → (read_of (view b).market m).outcome ≡ done (Message.Execute head order trade price volume printable) → r.answer ≡ 0
      → TakesOff order volume (live_in head.index (view b)) (live_in head.index (view r.book))
  -- a cross that is done counts: where its number isn't kept and there is room, the day's volume rises by its volume, the mark is as it was, and the cross is then kept
  pub cross_counts : {m : List ℕ} (head : Head) (cross price volume class : ℕ) (x : Symbol) → StandsAt s at m → (read_of (view b).market m).outcome ≡ done (Message.Cross head cross price volume class) → r.answer ≡ 0
      → symbol_in head.index (view b) ≡ some x → look cross_number cross x.kept.crosses ≡ none → length x.kept.crosses < crosses_each
      → (volume_of head.index (view r.book) ≡ record { answer = 0; shares = (volume_of head.index (view b)).shares + volume; whole = (volume_of head.index (view b)).whole })
      × (look cross_number cross (crosses_in head.index (view r.book)) ≡ some (cross_of cross volume))
  -- a correction that is done counts: in the day's volume its volume is in the place of the one that its cross had, the mark is as it was, and the cross is then kept with it
  pub correction_counts : {m : List ℕ} (head : Head) (cross volume : ℕ) (x : Symbol) (y : Cross) → StandsAt s at m → (read_of (view b).market m).outcome ≡ done (Message.CrossCorrection head cross volume) → r.answer ≡ 0
      → symbol_in head.index (view b) ≡ some x → look cross_number cross x.kept.crosses ≡ some y
      → Replaces y.volume volume (volume_of head.index (view b)) (volume_of head.index (view r.book))
      × (look cross_number cross (crosses_in head.index (view r.book)) ≡ some (cross_of cross volume))
  -- one that is done and left out uses its number and takes the mark: nothing else of its symbol changes
  pub leaves_out : {m : List ℕ} (message : Message) (x : Symbol) → StandsAt s at m → (read_of (view b).market m).outcome ≡ done message → r.answer ≡ 0
      → symbol_in (index_of (meant message)) (view b) ≡ some x → LeavesOut x message → symbol_in (index_of (meant message)) (view r.book) ≡ some (left_out x)
  -- a message for one symbol changes nothing kept for another: orders, record, mark, number, name and scale; nor does a refusal
  pub others_unchanged : (index : ℕ) → ((m : List ℕ) → StandsAt s at m → NotFor (view b).market index m) → symbol_in index (view r.book) ≡ symbol_in index (view b)
  -- a record that has lost its mark does not get it back
  pub mark_stays_lost : (index : ℕ) → (volume_of index (view b)).whole ≡ false → (volume_of index (view r.book)).whole ≡ false
  -- the state is of the market that it was made for
  pub market_stays : (view r.book).market ≡ (view b).market

-- ---- of a run: each message in turn
abbrev pub AllNotFor : Market → ℕ → List (List ℕ) → Type 0
AllNotFor market index [] = Unit {0}
AllNotFor market index (m ∷ ms) = NotFor market index m × AllNotFor market index ms

pub record OfRun (b : Book) (s : List ℕ) (from : ℕ) (r : Ran) : Type 0 where
  pub effects : Obeys (run_of (view b) s from) r.book r.answer
  -- the position is the start and the Msg Sizes passed
  pub position : r.at ≡ from + sum_by msg_size (walk_of s from).messages
  -- and the bytes there are why it stopped
  pub stopped : reach_of (drop r.at s) ≡ refused r.answer
  pub others_unchanged : (index : ℕ) → AllNotFor (view b).market index (walk_of s from).messages → symbol_in index (view r.book) ≡ symbol_in index (view b)
  pub mark_stays_lost : (index : ℕ) → (volume_of index (view b)).whole ≡ false → (volume_of index (view r.book)).whole ≡ false
  pub market_stays : (view r.book).market ≡ (view b).market

-- DEMAND 2, for every state that the calls can be given
pub record Demand2 (b : Book) : Type 0 where
  pub symbols : (index : ℕ) (s : Symbol) → symbol_in index (view b) ≡ some s → OfSymbol b index s
  pub messages : {s : List ℕ} {at : ℕ} {r : Moved} → Moves b s at r → OfMessage b s at r
  pub runs : {s : List ℕ} {from : ℕ} {r : Ran} → Runs b s from r → OfRun b s from r
  -- and registering leaves the market too
  pub market_stays : {r : Done} (index : ℕ) (name : List ℕ) (scale : ℕ) → Steps b (register_of (view b) index name scale) r → (view r.book).market ≡ (view b).market

-- and of the messages alone, under every market: what is written is read as the same message, and what is read is written as the same bytes, where the reserved ones are zero
pub record RoundTrips : Type 0 where
  pub read_what_was_written : (market : Market) (m : Message) (plain out : List ℕ) → length plain ≡ plain_room → InRange (fields_of m) → ReadsBack market m plain (write_of market m plain out)
  pub write_what_was_read : (market : Market) (s : List ℕ) → Bytes s → WritesBack market s (read_of market s)

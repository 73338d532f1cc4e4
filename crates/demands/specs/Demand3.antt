-- Demand 3 of document 00 for the reader that is built: what two readers are, what is given of them and of the feed, and what the second one then quotes.
use Rattle.std.specs.Prelude.{ℕ, ◌≤◌, false, ◌↔◌, ◌≡◌, take, drop}
use mathlib.Core.List.{List, [], ◌∷◌, ◌++◌, flatten}
use Rattle.std.proofs.Math.Option.{some}
use Rattle.wire.specs.Outcome.{done}
use Rattle.wire.specs.Reading.{reach_of}
use Rattle.markets.specs.declared.Market.{Market}
use Rattle.feed.specs.Reader.{Act, clearing, index_of}
use Rattle.feed.specs.Feed.{Feed, ◌▷◌, heard, phase}
use Rattle.feed.specs.Book.{book_of}
use Rattle.feed.specs.Demand3.{NoneLost, AfterLoss, UntilClear, Since, NotLost, answered}
use Rattle.book.specs.State.{View, view, Fresh}
use Rattle.book.specs.Promises.{Steps}
use Rattle.book.specs.Registering.{register_of}
use Rattle.book.specs.Step.{step_in}
use Rattle.book.specs.Quote.{no_quote, quoted_if, quote_of}
use Rattle.book.specs.Walk.{walk_of, Moves, Runs}
use Rattle.book.specs.declared.Book.{Book}
use Rattle.book.specs.declared.Done.{Done}
use Rattle.book.specs.declared.quote.Quote.{Quote}
use Rattle.book.specs.declared.walk.Moved.{Moved}
use Rattle.book.specs.declared.walk.Ran.{Ran}
use Rattle.demands.specs.Reader.{pillar, Effect, Registered}
use Rattle.demands.specs.ByteFeed.{ByteFeed, begins, hears, loses, sent, delivered, Moment, Complete, Applied, ClearsDelivered, act_in, feed_of}

-- ---- the states of a reader, by the promises of the calls that hand them back
-- a new state with symbols registered, in any order and whatever registering answers
pub data Began : Book → Type 0 where
  new : {b : Book} {market : Market} → Fresh market b → Began b
  registers : {b : Book} {r : Done} (index : ℕ) (name : List ℕ) (scale : ℕ) → Began b → Steps b (register_of (view b) index name scale) r → Began r.book

-- a message m stands at a position of a slice
pub record StandsAt (s : List ℕ) (at : ℕ) (m : List ℕ) : Type 0 where
  pub size : ℕ
  pub reaches : reach_of (drop at s) ≡ done size
  pub bytes : take size (drop at s) ≡ m

-- of the messages ns of a stream those that count are ms: the others are refused with 1 to 5, and act as lost
pub data Counted : View → List (List ℕ) → List (List ℕ) → Type 0 where
  no_more : {v : View} → Counted v [] []
  counts : {v : View} {ms ns : List (List ℕ)} {m : List ℕ} → Counted (step_in v m).view ms ns → Counted v (m ∷ ms) (m ∷ ns)
  acts_as_lost : {v : View} {ms ns : List (List ℕ)} {m : List ℕ} → 1 ≤ (step_in v m).answer → (step_in v m).answer ≤ 5 → Counted v ms ns → Counted v ms (m ∷ ns)

-- a reader in state b is given these messages, by `apply` and `run` at any positions of any slices, and is then in the last state
pub data Reads (b : Book) : List (List ℕ) → Book → Type 0 where
  nothing : Reads b [] b
  applies : {ms : List (List ℕ)} {c : Book} {s : List ℕ} {at : ℕ} {m : List ℕ} {r : Moved} → Reads b ms c → StandsAt s at m → Moves c s at r → Reads b (ms ++ m ∷ []) r.book
  refuses : {ms : List (List ℕ)} {c : Book} {s : List ℕ} {at : ℕ} {r : Moved} → Reads b ms c → Moves c s at r → 1 ≤ r.answer → r.answer ≤ 5 → Reads b ms r.book
  runs : {ms ns : List (List ℕ)} {c : Book} {s : List ℕ} {at : ℕ} {r : Ran} → Reads b ms c → Runs c s at r → Counted (view c) ns (walk_of s at).messages → Reads b (ms ++ ns) r.book

-- the same by one run over the messages laid end to end, as those of every stream are (`every-stream`)
pub data RunsOver (b : Book) (ms : List (List ℕ)) : Book → Type 0 where
  ran : {r : Ran} → Runs b (flatten ms) 0 r → RunsOver b ms r.book

-- ---- what is given: two new readers of the same market with the same symbols, and a feed of which a reader that is given all refuses nothing; what is lost of it is numbered
pub record Given (b c : Book) (f : ByteFeed) : Type 0 where
  pub first_began : Began b
  pub second_began : Began c
  pub same_market : (view b).market ≡ (view c).market
  pub same_symbols : (index : ℕ) → Registered index (view b) ↔ Registered index (view c)
  pub complete : Complete f
  pub applied : Applied (view b) f
  pub clears_delivered : ClearsDelivered f

-- what is given of the feed, by calls: a reader in state b that is handed all of it, message by message, answers 0 to each (`applied-by-calls`)
pub data AnswersZero (b : Book) : ByteFeed → Book → Type 0 where
  nothing_yet : AnswersZero b begins b
  to_heard : {f : ByteFeed} {c : Book} {s : List ℕ} {at : ℕ} {m : List ℕ} {r : Moved} → AnswersZero b f c → StandsAt s at m → Moves c s at r → r.answer ≡ 0 → AnswersZero b (hears f m) r.book
  to_lost : {f : ByteFeed} {c : Book} {s : List ℕ} {at : ℕ} {m : List ℕ} {r : Moved} → AnswersZero b f c → StandsAt s at m → Moves c s at r → r.answer ≡ 0 → AnswersZero b (loses f m) r.book

-- a message that the second reader hears after f says something, and this is the number that belongs to it
pub record AnsweredAs (market : Market) (f : ByteFeed) (m : List ℕ) (answer : ℕ) : Type 0 where
  pub act : Act Effect
  pub says : act_in market m ≡ some act
  pub number : answer ≡ answered (phase (index_of act) (feed_of market f)) act

-- the contract of `quote` says that it hands back this
abbrev pub quote_in : Book → ℕ → Quote
quote_in b index = quote_of index (view b)

-- ---- what is demanded. The first reader starts in b and is given all of the feed, the second in c and is given what is delivered; `Takes` is the way in which a
-- reader is given messages, and f is any moment of the feed, since what is given of a feed is given of its every moment (`given-at`).
module _ (Takes : Book → List (List ℕ) → Book → Type 0) (b c : Book) where
  pub record Now (f : ByteFeed) (first second : Book) : Type 0 where
    pub given : Given b c f
    pub all : Takes b (sent f) first
    pub rest : Takes c (delivered f) second

  pub record Quotes (f : ByteFeed) (first second : Book) : Type 0 where
    -- none of the symbol's messages lost, counted from its last clear or the start: the second reader quotes as the first does now,
    pub nothing_lost : (index : ℕ) → NoneLost index (feed_of (view b).market f) → quote_in second index ≡ quote_in first index
    -- which is the book that document 01's rules make of the messages,
    pub quotes_the_book : (index : ℕ) → Registered index (view b) → NoneLost index (feed_of (view b).market f) → quote_in second index ≡ quoted_if false (book_of pillar index (feed_of (view b).market f))
    -- as it is for the first at every moment
    pub first_quotes_the_book : (index : ℕ) → Registered index (view b) → quote_in first index ≡ quoted_if false (book_of pillar index (feed_of (view b).market f))
    -- after a loss: it quotes as the first did at h, the moment before the first lost message
    pub after_a_loss : (index : ℕ) {h : ByteFeed} {before : Book} → Moment h f → Takes b (sent h) before → AfterLoss index (feed_of (view b).market h) (feed_of (view b).market f) → quote_in second index ≡ quote_in before index
    -- once it hears a numbered message of the symbol after that, it refuses, until a clear
    pub refused_until_a_clear : (index : ℕ) → UntilClear index (feed_of (view b).market f) → quote_in second index ≡ no_quote 8
    -- from that clear on, whatever was lost before it, until another loss: it again agrees with the first
    pub from_that_clear_on : (index : ℕ) {next : ℕ} {h : Feed Effect} → Since (NotLost index) (h ▷ heard (clearing index next)) (feed_of (view b).market f) → quote_in second index ≡ quote_in first index
    -- and what it answers to the message m that it hears next: 0 while it agrees, 7 to the first numbered one after a loss, then 8
    pub answers : {s : List ℕ} {at : ℕ} {m : List ℕ} {r : Moved} → Given b c (hears f m) → StandsAt s at m → Moves second s at r → AnsweredAs (view b).market f m r.answer

  -- DEMAND 3
  abbrev pub Demand3 : Type 0
  Demand3 = (f : ByteFeed) (first second : Book) → Now f first second → Quotes f first second

-- at every moment a symbol stands in one of these, so that one of the clauses says what is quoted (`every-moment`)
pub data Stage (market : Market) (index : ℕ) (f : ByteFeed) : Type 0 where
  none_lost : NoneLost index (feed_of market f) → Stage market index f
  after_loss : {h : ByteFeed} → Moment h f → AfterLoss index (feed_of market h) (feed_of market f) → Stage market index f
  until_clear : UntilClear index (feed_of market f) → Stage market index f

-- A feed as bytes: what is sent, what reaches the second reader, and what each message says.
use Rattle.std.specs.Prelude.{ℕ, List, [], ◌∷◌, ◌++◌, ◌≡◌}
use Rattle.std.proofs.Math.Option.{Option, none, some}
use Rattle.wire.specs.Outcome.{Outcome, done, refused}
use Rattle.wire.specs.Reading.{msg_type, read_of}
use Rattle.wire.specs.declared.Message.{Message}
use Rattle.markets.specs.declared.Market.{Market}
use Rattle.feed.specs.Reader.{Act}
use Rattle.feed.specs.Feed.{Item, Feed, start, ◌▷◌, heard, lost}
use Rattle.book.specs.State.{View}
use Rattle.book.specs.Step.{meant, step_in}
use Rattle.book.specs.Walk.{CompleteMessage, steps_of}
use Rattle.demands.specs.Reader.{Effect}

-- A feed up to a moment, the last message outermost: each message, in bytes, is heard by the second reader or lost on the way to it.
pub data ByteFeed : Type 0 where
  begins : ByteFeed
  hears : ByteFeed → List ℕ → ByteFeed
  loses : ByteFeed → List ℕ → ByteFeed

-- the messages of it, and those that the second reader is given
unfoldable pub sent : ByteFeed → List (List ℕ)
sent begins = []
sent (hears f m) = sent f ++ m ∷ []
sent (loses f m) = sent f ++ m ∷ []

unfoldable pub delivered : ByteFeed → List (List ℕ)
delivered begins = []
delivered (hears f m) = delivered f ++ m ∷ []
delivered (loses f m) = delivered f

-- h is f, or an earlier moment of it
pub data Moment (h : ByteFeed) : ByteFeed → Type 0 where
  now : Moment h h
  then_hears : {f : ByteFeed} {m : List ℕ} → Moment h f → Moment h (hears f m)
  then_loses : {f : ByteFeed} {m : List ℕ} → Moment h f → Moment h (loses f m)

-- ---- what is asked of it
-- each message has as many bytes as its Msg Size says
unfoldable pub Complete : ByteFeed → Type 0
Complete begins = Unit {0}
Complete (hears f m) = Complete f × CompleteMessage m
Complete (loses f m) = Complete f × CompleteMessage m

-- a reader that receives all of it applies it without one refusal
abbrev pub IsDone : View → List (List ℕ) → List ℕ → Type 0
IsDone v ms m = (step_in (steps_of v ms) m).answer ≡ 0

unfoldable pub Applied : View → ByteFeed → Type 0
Applied v begins = Unit {0}
Applied v (hears f m) = Applied v f × IsDone v (sent f) m
Applied v (loses f m) = Applied v f × IsDone v (sent f) m

-- every symbol clear is delivered: what is lost is not of type 32
unfoldable pub ClearsDelivered : ByteFeed → Type 0
ClearsDelivered begins = Unit {0}
ClearsDelivered (hears f m) = ClearsDelivered f
ClearsDelivered (loses f m) = ClearsDelivered f × (msg_type m ≡ 32 → ⊥)

-- ---- the same feed in the words of `feed`
-- what a message of a market says: nothing, where reading refuses it
abbrev pub said : Outcome Message → Option (Act Effect)
said (done m) = some (meant m)
said (refused n) = none

abbrev pub act_in : Market → List ℕ → Option (Act Effect)
act_in market m = said (read_of market m).outcome

-- a feed and then what is said; where nothing is, the feed as it was
abbrev pub goes_on : Feed Effect → (Act Effect → Item Effect) → Option (Act Effect) → Feed Effect
goes_on f way none = f
goes_on f way (some a) = f ▷ way a

unfoldable pub feed_of : Market → ByteFeed → Feed Effect
feed_of market begins = start
feed_of market (hears f m) = goes_on (feed_of market f) heard (act_in market m)
feed_of market (loses f m) = goes_on (feed_of market f) lost (act_in market m)

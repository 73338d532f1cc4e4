-- A message meets its symbol: document 01, "Numbers answered" and "The book"; what each of the 13 typed messages means, and the step over what reading answered.
use Rattle.std.specs.Prelude.{Bool, cond, List, [], ℕ, ltb, eqb, set}
use Rattle.std.proofs.Math.Option.{Option, none, some}
use Rattle.feed.specs.Reader.{Ruling, unchanged, made_stale, applied, ruled, Act, clearing, numbered, index_of}
use Rattle.wire.specs.Outcome.{Outcome, done, refused}
use Rattle.wire.specs.Fields.{buy_letter}
use Rattle.wire.specs.Reading.{Read, read_of}
use Rattle.wire.specs.declared.Message.{Message}
use Rattle.symbols.specs.Turns.{standing_at, staled, counted, restarted}
use Rattle.symbols.specs.declared.Standing.{Standing}
use Rattle.orders.specs.Rules.{apply_to}
use Rattle.orders.specs.declared.Order.{Order}
use Rattle.orders.specs.declared.Change.{Change}
use Rattle.record.specs.State.{Kept}
use Rattle.record.specs.Rules.{kept_after, lost_by}
use Rattle.record.specs.declared.Deal.{Deal}
use Rattle.book.specs.State.{Symbol, View, with_places, Next, symbol_of, place_in, symbol_in}
use Rattle.book.specs.declared.acts.Effect.{Effect}
use Rattle.book.specs.declared.acts as code

-- ---- one symbol: what is kept after a message, and the answer
pub record Meeting : Type 0 where
  pub symbol : Symbol
  pub answer : ℕ

-- the same symbol where it then stands, with these orders and this record
abbrev pub becomes : Symbol → Standing → List Order → Kept → Symbol
becomes s t os x = symbol_of (standing_at t s.entry) os x

-- stale, with the orders and the record that it had
abbrev pub symbol_made_stale : Symbol → Symbol
symbol_made_stale s = becomes s (staled s.entry.standing) s.orders s.kept

-- a ruling carried out; `ruled` has the rows of "Numbers answered"
unfoldable pub enacted : Symbol → Deal → Ruling (List Order) → Meeting
enacted s d (unchanged a) = record { symbol = s; answer = a }
enacted s d (made_stale a) = record { symbol = symbol_made_stale s; answer = a }
enacted s d (applied os) = record { symbol = becomes s (counted (lost_by s.kept d) s.entry.standing) os (kept_after s.kept d); answer = 0 }

-- a clear: no orders, and a new start of the numbers
abbrev pub cleared : Symbol → ℕ → Meeting
cleared s next = record { symbol = becomes s (restarted next s.entry.standing) [] s.kept; answer = 0 }

-- each effect taken apart: what it does to the orders, and what it brings to the record
abbrev pub apart : Effect → Change × Deal
apart (Effect.Add n buy p v) = (Change.Add n buy p v, Deal.Nothing)
apart (Effect.Modify n buy p v) = (Change.Modify n buy p v, Deal.Nothing)
apart (Effect.Delete n) = (Change.Delete n, Deal.Nothing)
apart (Effect.Execute n v deal) = (Change.Execute n v, deal)
apart (Effect.Replace old n buy p v) = (Change.Replace old n buy p v, Deal.Nothing)
apart (Effect.Other deal) = (Change.Nothing, deal)

abbrev pub change_of : Effect → Change
change_of e = (apart e).0

abbrev pub deal_of : Effect → Deal
deal_of e = (apart e).1

unfoldable pub meeting : Symbol → Act Effect → Meeting
meeting s (clearing index next) = cleared s next
meeting s (numbered index n e) = enacted s (deal_of e) (ruled s.entry.standing.stale (ltb n s.entry.standing.expected) (ltb s.entry.standing.expected n) (apply_to s.orders (change_of e)))

-- ---- the eight symbols: the next view, and the answer
abbrev pub refusing : View → ℕ → Next
refusing v a = record { view = v; answer = a }

abbrev pub put : View → ℕ → Meeting → Next
put v k r = record { view = with_places v (set v.places k (some r.symbol)); answer = r.answer }

-- a symbol that is not registered answers 5; another one's place stays as it was
abbrev pub act_at : View → ℕ → Option Symbol → Act Effect → Next
act_at v k none a = refusing v 5
act_at v k (some s) a = put v k (meeting s a)

unfoldable pub act_on : View → Act Effect → Next
act_on v a = act_at v (place_in (index_of a) v) (symbol_in (index_of a) v) a

-- ---- what each message means
abbrev pub buys : ℕ → Bool
buys side = eqb side buy_letter

-- a trade is recorded with printable 1
abbrev pub if_printable : ℕ → ℕ → ℕ → ℕ → Deal
if_printable printable n p v = cond (eqb printable 1) (Deal.Records n p v) Deal.Nothing

unfoldable pub meant : Message → Act Effect
meant (Message.Add h n p v side) = numbered h.index h.number (Effect.Add n (buys side) p v)
meant (Message.Modify h n p v position side) = numbered h.index h.number (Effect.Modify n (buys side) p v)
meant (Message.Delete h n) = numbered h.index h.number (Effect.Delete n)
meant (Message.Execute h n t p v printable) = numbered h.index h.number (Effect.Execute n v (if_printable printable t p v))
meant (Message.Replace h old n p v side) = numbered h.index h.number (Effect.Replace old n (buys side) p v)
meant (Message.Imbalance h seconds) = numbered h.index h.number (Effect.Other Deal.Nothing)
meant (Message.NonDisplayed h t p v printable) = numbered h.index h.number (Effect.Other (if_printable printable t p v))
meant (Message.Cross h cross p v class) = numbered h.index h.number (Effect.Other (Deal.Crosses cross v))
meant (Message.TradeCancel h t) = numbered h.index h.number (Effect.Other (Deal.Cancels t))
meant (Message.CrossCorrection h cross v) = numbered h.index h.number (Effect.Other (Deal.Corrects cross v))
meant (Message.Retail h indicator) = numbered h.index h.number (Effect.Other Deal.Nothing)
meant (Message.Clear h seconds) = clearing h.index h.number
meant (Message.Status h seconds) = numbered h.index h.number (Effect.Other Deal.Nothing)

-- the code's word for it
abbrev pub acted_as : code.Act.Act → Act Effect
acted_as (code.Act.Act.Clear index next) = clearing index next
acted_as (code.Act.Act.Numbered index n e) = numbered index n e

-- ---- the step: answers 1 to 4 leave all as it was
abbrev pub step_on : View → Outcome Message → Next
step_on v (done m) = act_on v (meant m)
step_on v (refused a) = refusing v a

unfoldable pub step_of : View → Read → Next
step_of v d = step_on v d.outcome

-- of bytes, read as the view's market sends them
abbrev pub step_in : View → List ℕ → Next
step_in v m = step_of v (read_of v.market m)

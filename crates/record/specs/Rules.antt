-- What a deal does to a symbol's record: document 01, "The trade record", and request M-102.
use Rattle.std.specs.Prelude.{Bool, true, false, List, ℕ, ◌+◌, ltb, length}
use Rattle.std.proofs.Math.Option.{Option, none, some}
use Rattle.places.specs.Places.{insert, remove, look, sum_by}
use Rattle.record.specs.State.{trades_each, crosses_each, trade_number, cross_number, Kept}
use Rattle.record.specs.declared.Trade.{Trade}
use Rattle.record.specs.declared.Cross.{Cross}
use Rattle.record.specs.declared.Deal.{Deal}

-- ---- trades
abbrev pub trade_of : ℕ → ℕ → ℕ → Trade
trade_of n p v = record { live = true; number = n; price = p; volume = v }

-- the trades kept after it, and whether the mark "whole" is lost
pub record After : Type 0 where
  pub trades : List Trade
  pub lost : Bool

abbrev pub after : List Trade → Bool → After
after ts lost = record { trades = ts; lost = lost }

-- a number that is kept already, or a full record: nothing is recorded
--                found     room
abbrev pub recorded : List Trade → Trade → Option Trade → Bool → After
recorded ts t (some x) room = after ts true
recorded ts t none false = after ts true
recorded ts t none true = after (insert trade_number t ts) false

-- a cancelled trade that isn't found: nothing is removed
abbrev pub cancelled : List Trade → ℕ → Option Trade → After
cancelled ts n none = after ts true
cancelled ts n (some x) = after (remove trade_number n ts) false

-- a cross changes no trade
unfoldable pub deal_to : List Trade → Deal → After
deal_to ts Deal.Nothing = after ts false
deal_to ts (Deal.Records n p v) = recorded ts (trade_of n p v) (look trade_number n ts) (ltb (length ts) trades_each)
deal_to ts (Deal.Cancels n) = cancelled ts n (look trade_number n ts)
deal_to ts (Deal.Crosses n v) = after ts false
deal_to ts (Deal.Corrects n v) = after ts false

-- ---- crosses, a list of their own
abbrev pub cross_of : ℕ → ℕ → Cross
cross_of n v = record { live = true; number = n; volume = v }

-- the crosses kept after it, and whether the mark is lost
pub record Crossed : Type 0 where
  pub crosses : List Cross
  pub lost : Bool

abbrev pub crossed_as : List Cross → Bool → Crossed
crossed_as xs lost = record { crosses = xs; lost = lost }

-- a number that is kept already, or a full list: nothing is kept
--                found     room
abbrev pub crossed : List Cross → Cross → Option Cross → Bool → Crossed
crossed xs x (some y) room = crossed_as xs true
crossed xs x none false = crossed_as xs true
crossed xs x none true = crossed_as (insert cross_number x xs) false

-- the cross has the new volume in place of its own; of one that isn't found nothing is kept
abbrev pub corrected : List Cross → Cross → Option Cross → Crossed
corrected xs x none = crossed_as xs true
corrected xs x (some y) = crossed_as (insert cross_number x (remove cross_number x.number xs)) false

-- a trade changes no cross
abbrev pub cross_to : List Cross → Deal → Crossed
cross_to xs Deal.Nothing = crossed_as xs false
cross_to xs (Deal.Records n p v) = crossed_as xs false
cross_to xs (Deal.Cancels n) = crossed_as xs false
cross_to xs (Deal.Crosses n v) = crossed xs (cross_of n v) (look cross_number n xs) (ltb (length xs) crosses_each)
cross_to xs (Deal.Corrects n v) = corrected xs (cross_of n v) (look cross_number n xs)

-- ---- both: there is one mark, and either list can lose it
abbrev pub either : Bool → Bool → Bool
either true b = true
either false b = b

abbrev pub kept_after : Kept → Deal → Kept
kept_after x d = record { trades = (deal_to x.trades d).trades; crosses = (cross_to x.crosses d).crosses }

abbrev pub lost_by : Kept → Deal → Bool
lost_by x d = either (deal_to x.trades d).lost (cross_to x.crosses d).lost

-- the day's volume is the sum over kept trades and kept crosses
unfoldable pub shares_of : Kept → ℕ
shares_of x = sum_by (λ t. t.volume) x.trades + sum_by (λ c. c.volume) x.crosses

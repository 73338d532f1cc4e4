-- What a deal makes of a symbol's trades and crosses by the rules is one more, or another in the place of one, or an empty place.
use mathlib.Core.Bool.{Bool, true, false}
use mathlib.Core.List.{List}
use mathlib.Core.Option.{Option, none, some}
use mathlib.Core.Path.{◌≡◌, refl}
use Prim.Native.Nat.{ℕ}
use lib.Dec.{ltb}
use lib.ListN.{length}
use Rattle.places.specs.Places.{look, in_order}
use Rattle.record.specs.State.{trades_each, crosses_each, no_trade, trade_number, trade_live, cross_number, cross_live}
use Rattle.record.specs.Rules.{deal_to, after, trade_of, recorded, cancelled, cross_to, crossed_as, cross_of, crossed, corrected}
use Rattle.record.specs.Deciding.{one_more, one_other, more, other}
use Rattle.record.specs.declared.Trade.{Trade}
use Rattle.record.specs.declared.Cross.{Cross}
use Rattle.record.specs.declared.Deal.{Deal}
use Rattle.record.proofs.Storing.{after_by, nothing_by}

module _ (l : List Trade) where
  abbrev trades : List Trade
  trades = in_order trade_number trade_live l

  abbrev AsTrades : Deal → Option (List Trade) → Type 0
  AsTrades d to-be = deal_to trades d ≡ after (after_by trades to-be) (nothing_by to-be)

  pub records : (n p v : ℕ) → length l ≡ trades_each → AsTrades (Deal.Records n p v) (more trade_number trade_live (trade_of n p v) l)
  unfolding deal_to
  records n p v long = rw long (go (look trade_number n trades) (ltb (length trades) trades_each))
    where
      go : (x : Option Trade) (room : Bool) → recorded trades (trade_of n p v) x room ≡ after (after_by trades (one_more trade_number (trade_of n p v) trades x room)) (nothing_by (one_more trade_number (trade_of n p v) trades x room))
      go (some x) room = refl
      go none true = refl
      go none false = refl

  pub cancels : (n : ℕ) → AsTrades (Deal.Cancels n) (other trade_number trade_live no_trade n l)
  unfolding deal_to
  cancels n = go (look trade_number n trades)
    where
      go : (x : Option Trade) → cancelled trades n x ≡ after (after_by trades (one_other trade_number false no_trade n trades x)) (nothing_by (one_other trade_number false no_trade n trades x))
      go (some x) = refl
      go none = refl

module _ (l : List Cross) where
  abbrev crosses : List Cross
  crosses = in_order cross_number cross_live l

  abbrev AsCrosses : Deal → Option (List Cross) → Type 0
  AsCrosses d to-be = cross_to crosses d ≡ crossed_as (after_by crosses to-be) (nothing_by to-be)

  pub adds : (n v : ℕ) → length l ≡ crosses_each → AsCrosses (Deal.Crosses n v) (more cross_number cross_live (cross_of n v) l)
  adds n v long = rw long (go (look cross_number n crosses) (ltb (length crosses) crosses_each))
    where
      go : (x : Option Cross) (room : Bool) → crossed crosses (cross_of n v) x room ≡ crossed_as (after_by crosses (one_more cross_number (cross_of n v) crosses x room)) (nothing_by (one_more cross_number (cross_of n v) crosses x room))
      go (some x) room = refl
      go none true = refl
      go none false = refl

  pub corrects : (n v : ℕ) → AsCrosses (Deal.Corrects n v) (other cross_number cross_live (cross_of n v) n l)
  corrects n v = go (look cross_number n crosses)
    where
      go : (x : Option Cross) → corrected crosses (cross_of n v) x ≡ crossed_as (after_by crosses (one_other cross_number true (cross_of n v) n crosses x)) (nothing_by (one_other cross_number true (cross_of n v) n crosses x))
      go (some x) = refl
      go none = refl

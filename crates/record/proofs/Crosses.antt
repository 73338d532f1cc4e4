-- What a cross and its correction make of the shares kept, and what they leave where they are left out: request M-102. The room for trades and for crosses, with the numbers written out.
use mathlib.Core.Bool.{true, false}
use mathlib.Core.List.{List}
use mathlib.Core.Option.{Option, none, some}
use mathlib.Core.Path.{◌≡◌, refl}
use Prim.Native.Nat.{ℕ, ◌+◌, ◌<◌, ◌≤◌}
use native.Mathlib.Omega.{arith}
use borrow.Author.Tests.{lt-ltb, le-ltb}
use lib.ListN.{length}
use Rattle.places.specs.Places.{insert, remove, look}
use Rattle.places.proofs.Sorted.{look_insert, sum_insert, sum_remove}
use Rattle.record.specs.State.{crosses_each, trade_number, cross_number, Kept}
use Rattle.record.specs.Rules.{after, trade_of, deal_to, crossed_as, cross_of, crossed, cross_to, kept_after, lost_by, shares_of}
use Rattle.record.specs.declared.Trade.{Trade}
use Rattle.record.specs.declared.Cross.{Cross}
use Rattle.record.specs.declared.Deal.{Deal}

-- the mark goes, and what is kept stays
pub record LeftOut (k : Kept) (d : Deal) : Type 0 where
  pub lost : lost_by k d ≡ true
  pub kept : kept_after k d ≡ k

-- a trade that is not kept is not cancelled, and no cross is
pub cancel_missing : (k : Kept) (n : ℕ) → look trade_number n k.trades ≡ none → LeftOut k (Deal.Cancels n)
unfolding deal_to
cancel_missing k n e = record { lost = rw e refl; kept = rw e refl }

module _ (k : Kept) (n v : ℕ) where
  -- ---- it counts: the mark stays, the shares move by its volume, and it is then found with that
  pub record CrossCounts : Type 0 where
    pub lost : lost_by k (Deal.Crosses n v) ≡ false
    pub shares : shares_of (kept_after k (Deal.Crosses n v)) ≡ shares_of k + v
    pub found : look cross_number n (kept_after k (Deal.Crosses n v)).crosses ≡ some (cross_of n v)

  pub cross_counts : look cross_number n k.crosses ≡ none → length k.crosses < crosses_each → CrossCounts
  unfolding deal_to shares_of
  cross_counts e h = record {
    lost = rw (e, lt-ltb _ _ h);
    shares = rw (e, lt-ltb _ _ h, sum_insert cross_number (λ (c : Cross). c.volume) (cross_of n v) k.crosses) (omega arith);
    found = rw (e, lt-ltb _ _ h) (look_insert cross_number (cross_of n v) k.crosses);
  }

  pub record CorrectionCounts (y : Cross) : Type 0 where
    pub lost : lost_by k (Deal.Corrects n v) ≡ false
    pub shares : shares_of (kept_after k (Deal.Corrects n v)) + y.volume ≡ shares_of k + v
    pub found : look cross_number n (kept_after k (Deal.Corrects n v)).crosses ≡ some (cross_of n v)

  pub correction_counts : (y : Cross) → look cross_number n k.crosses ≡ some y → CorrectionCounts y
  unfolding deal_to shares_of
  correction_counts y e =
      let rest = sum_remove cross_number (λ (c : Cross). c.volume) n k.crosses y e in
      record {
        lost = rw e;
        shares = rw (e, sum_insert cross_number (λ (c : Cross). c.volume) (cross_of n v) (remove cross_number n k.crosses)) (omega (arith, rest));
        found = rw e (look_insert cross_number (cross_of n v) (remove cross_number n k.crosses));
      }

  -- ---- it is left out
  pub repeated_left_out : (y : Cross) → look cross_number n k.crosses ≡ some y → LeftOut k (Deal.Crosses n v)
  unfolding deal_to
  repeated_left_out y e = record { lost = rw e; kept = rw e refl }

  pub crowded_left_out : crosses_each ≤ length k.crosses → LeftOut k (Deal.Crosses n v)
  unfolding deal_to
  crowded_left_out h = record { lost = rw (le-ltb _ _ h) (lost (look cross_number n k.crosses)); kept = rw (le-ltb _ _ h) (same (look cross_number n k.crosses)) }
    where
      lost : (x : Option Cross) → (crossed k.crosses (cross_of n v) x false).lost ≡ true
      lost none = refl
      lost (some y) = refl

      same : (x : Option Cross) → record { trades = k.trades; crosses = (crossed k.crosses (cross_of n v) x false).crosses } ≡ k
      same none = refl
      same (some y) = refl

  pub unknown_left_out : look cross_number n k.crosses ≡ none → LeftOut k (Deal.Corrects n v)
  unfolding deal_to
  unknown_left_out e = record { lost = rw e; kept = rw e refl }

-- ---- the room, in numbers: 16 crosses and 128 trades can be kept, and one more cannot
module _ (xs : List Cross) (n v : ℕ) (new : look cross_number n xs ≡ none) where
  pub the_16th_cross_is_kept : length xs ≡ 15 → cross_to xs (Deal.Crosses n v) ≡ crossed_as (insert cross_number (cross_of n v) xs) false
  the_16th_cross_is_kept e = rw (new, e) refl

  pub the_17th_cross_is_left_out : length xs ≡ 16 → cross_to xs (Deal.Crosses n v) ≡ crossed_as xs true
  the_17th_cross_is_left_out e = rw (new, e) refl

module _ (ts : List Trade) (n p v : ℕ) (new : look trade_number n ts ≡ none) where
  pub the_128th_trade_is_recorded : length ts ≡ 127 → deal_to ts (Deal.Records n p v) ≡ after (insert trade_number (trade_of n p v) ts) false
  unfolding deal_to
  the_128th_trade_is_recorded e = rw (new, e) refl

  pub the_129th_trade_is_left_out : length ts ≡ 128 → deal_to ts (Deal.Records n p v) ≡ after ts true
  unfolding deal_to
  the_129th_trade_is_left_out e = rw (new, e) refl

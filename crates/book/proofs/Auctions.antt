-- A cross or a correction that is done: what it makes of its symbol and of the day's volume. Request M-102.
use mathlib.Core.Bool.{Bool, true, false}
use mathlib.Core.Option.{Option, none, some}
use mathlib.Core.Path.{◌≡◌, refl, ap, ◌∙◌}
use Prim.Native.Nat.{ℕ, ◌+◌, ◌<◌}
use native.Mathlib.Omega.{arith}
use lib.Dec.{ltb}
use lib.ListN.{length}
use Rattle.feed.specs.Reader.{fits, numbered, ruled}
use Rattle.places.specs.Places.{look}
use Rattle.symbols.specs.Turns.{counted}
use Rattle.orders.specs.Rules.{apply_to}
use Rattle.record.specs.State.{crosses_each, cross_number}
use Rattle.record.specs.Rules.{cross_of, kept_after, lost_by, shares_of}
use Rattle.record.specs.declared.Cross.{Cross}
use Rattle.record.specs.declared.Deal.{Deal}
use Rattle.record.proofs.Crosses.{LeftOut, cross_counts, correction_counts}
use Rattle.book.specs.State.{Symbol, View, symbol_in, crosses_of, crosses_in}
use Rattle.book.specs.Promises.{left_out}
use Rattle.book.specs.Step.{becomes, enacted, meeting, act_on}
use Rattle.book.specs.Quote.{volume_of, Replaces}
use Rattle.book.specs.declared.acts.Effect.{Effect}
use Rattle.book.proofs.Isolation.{own_symbol}

-- done, a message that changes no order counts its number and deals with the record
other_done : (x : Symbol) (d : Deal) (stale below above : Bool) → (enacted x d (ruled stale below above (fits x.orders))).answer ≡ 0
    → (enacted x d (ruled stale below above (fits x.orders))).symbol ≡ becomes x (counted (lost_by x.kept d) x.entry.standing) x.orders (kept_after x.kept d)
unfolding enacted ruled
other_done x d true below above e = absurd (omega (arith, e))
other_done x d false true above e = absurd (omega (arith, e))
other_done x d false false true e = absurd (omega (arith, e))
other_done x d false false false e = refl

module _ (v : View) (index number : ℕ) (x : Symbol) (there : symbol_in index v ≡ some x) (d : Deal) (done : (act_on v (numbered index number (Effect.Other d))).answer ≡ 0) where
  abbrev after : View
  after = (act_on v (numbered index number (Effect.Other d))).view

  dealt : symbol_in index after ≡ some (becomes x (counted (lost_by x.kept d) x.entry.standing) x.orders (kept_after x.kept d))
  unfolding act_on meeting apply_to
  dealt = own_symbol v (numbered index number (Effect.Other d)) x there
      ∙ ap some (other_done x d x.entry.standing.stale (ltb number x.entry.standing.expected) (ltb x.entry.standing.expected number) (rw there at done))

  -- the mark stays
  counts : lost_by x.kept d ≡ false → volume_of index after ≡ record { answer = 0; shares = shares_of (kept_after x.kept d); whole = (volume_of index v).whole }
  unfolding volume_of
  counts kept = rw (dealt, kept, there)

  -- the mark goes
  pub left_out_lem : LeftOut x.kept d → symbol_in index after ≡ some (left_out x)
  left_out_lem l = dealt ∙ rw (l.lost, l.kept) refl

-- ---- where it counts: the day's volume, and the cross that is then kept
module _ (v : View) (index number : ℕ) (x : Symbol) (there : symbol_in index v ≡ some x) (n vol : ℕ) where
  abbrev crossed : View
  crossed = (act_on v (numbered index number (Effect.Other (Deal.Crosses n vol)))).view

  abbrev corrected : View
  corrected = (act_on v (numbered index number (Effect.Other (Deal.Corrects n vol)))).view

  module _ (done : (act_on v (numbered index number (Effect.Other (Deal.Crosses n vol)))).answer ≡ 0) (new : look cross_number n x.kept.crosses ≡ none) (room : length x.kept.crosses < crosses_each) where
    pub cross_raises : volume_of index crossed ≡ record { answer = 0; shares = (volume_of index v).shares + vol; whole = (volume_of index v).whole }
    unfolding volume_of
    cross_raises =
        let c = cross_counts x.kept n vol new room in
        counts v index number x there (Deal.Crosses n vol) done c.lost ∙ rw (c.shares, there)

    pub cross_found : look cross_number n (crosses_in index crossed) ≡ some (cross_of n vol)
    cross_found = ap (λ (y : Option Symbol). look cross_number n (crosses_of y)) (dealt v index number x there (Deal.Crosses n vol) done) ∙ (cross_counts x.kept n vol new room).found

  module _ (y : Cross) (done : (act_on v (numbered index number (Effect.Other (Deal.Corrects n vol)))).answer ≡ 0) (found : look cross_number n x.kept.crosses ≡ some y) where
    pub correction_replaces : Replaces y.volume vol (volume_of index v) (volume_of index corrected)
    unfolding volume_of
    correction_replaces =
        let c = correction_counts x.kept n vol y found in
        let after = counts v index number x there (Deal.Corrects n vol) done c.lost in
        record { answer = rw (after, there); shares = rw (after, there) c.shares; whole = rw after }

    pub correction_found : look cross_number n (crosses_in index corrected) ≡ some (cross_of n vol)
    correction_found = ap (λ (z : Option Symbol). look cross_number n (crosses_of z)) (dealt v index number x there (Deal.Corrects n vol) done) ∙ (correction_counts x.kept n vol y found).found

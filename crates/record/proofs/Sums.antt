-- A sum over the first places, one by one, and the two sums of a symbol.
use mathlib.Core.Bool.{cond}
use mathlib.Core.List.{List, [], ◌∷◌}
use mathlib.Core.Path.{◌≡◌, refl}
use Prim.Native.Nat.{ℕ, zero, suc, ◌+◌, ◌*◌, ◌<◌}
use native.Mathlib.Omega.{arith}
use lib.ListN.{length, get_or, take, drop}
use Rattle.places.specs.Places.{sum_by, shelf}
use Rattle.places.proofs.Living.{sum_in_order}
use Rattle.record.specs.State.{trades_each, crosses_each, trade_number, trade_live, trade_volume, cross_number, cross_live, cross_volume, kept_at}
use Rattle.record.specs.Rules.{shares_of}
use Rattle.record.specs.declared.Record.{Record}

pub sum_more : {A : Type 0} (w : A → ℕ) (l : List A) (i : ℕ) (d : A) → i < length l → sum_by w (take (suc i) l) ≡ sum_by w (take i l) + w (get_or l i d)
unfolding sum_by
sum_more w [] i d h = absurd (omega (arith, h))
sum_more w (a ∷ l) zero d h = omega arith
sum_more w (a ∷ l) (suc i) d h = let e = sum_more w l i d (omega (arith, h)) in omega (arith, e)

-- over places lent, d and e in number
pub shares_lent : (b : Record) (k d : ℕ) → d ≡ trades_each → (e : ℕ) → e ≡ crosses_each
    → sum_by (λ t. cond (trade_live t) (trade_volume t) 0) (take d (drop (k * trades_each) b.places)) + sum_by (λ x. cond (cross_live x) (cross_volume x) 0) (take e (drop (k * crosses_each) b.crosses)) ≡ shares_of (kept_at b k)
unfolding shares_of kept_at
shares_lent b k d p e q = rw (p, q, sum_in_order trade_number trade_live trade_volume (shelf trades_each k b.places), sum_in_order cross_number cross_live cross_volume (shelf crosses_each k b.crosses)) refl

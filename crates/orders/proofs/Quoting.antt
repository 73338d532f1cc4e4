-- A level over the places is the level of the live orders, since neither the best price nor a sum depends on where an order lies.
use mathlib.Core.Bool.{Bool, true, false}
use mathlib.Core.List.{List, []}
use mathlib.Core.Path.{◌≡◌, refl, sym, ap, ◌∙◌}
use Prim.Native.Nat.{ℕ, ◌+◌}
use native.Mathlib.Omega.{arith}
use Rattle.std.specs.Prelude.{Option, Some, None}
use Rattle.places.specs.Places.{fold, sum_by, in_order}
use Rattle.places.proofs.Sums.{fold_in_order, sum_fold}
use Rattle.orders.specs.State.{order_number, order_live}
use Rattle.orders.specs.Levels.{counts, better, best_step, no_best, best_of, shares_at, level_at, level_by, level_of}
use Rattle.orders.specs.declared.Order.{Order}

better_comm : (buy : Bool) (p q : ℕ) (b : Option ℕ) → better buy p (better buy q b) ≡ better buy q (better buy p b)
better_comm true p q None = ap Some (omega arith)
better_comm true p q (Some r) = ap Some (omega arith)
better_comm false p q None = ap Some (omega arith)
better_comm false p q (Some r) = ap Some (omega arith)

pub best_comm : (buy : Bool) (a b : Order) (y : Option ℕ) → best_step buy a (best_step buy b y) ≡ best_step buy b (best_step buy a y)
unfolding best_step
best_comm buy a b y = go (counts buy a) (counts buy b) refl refl
  where
    go : (s t : Bool) → counts buy a ≡ s → counts buy b ≡ t → best_step buy a (best_step buy b y) ≡ best_step buy b (best_step buy a y)
    go true true e f = simp (e, f) (better_comm buy a.price b.price y)
    go true false e f = simp (e, f)
    go false true e f = simp (e, f)
    go false false e f = simp (e, f)

best_view : (buy : Bool) (l : List Order) → best_of buy (in_order order_number order_live l) ≡ best_of buy l
unfolding best_step
best_view buy l = fold_in_order (best_step buy) no_best order_number (best_comm buy) order_live (λ a y e. rw e) l

pub shares_view : (buy : Bool) (p : ℕ) (l : List Order) → sum_by (shares_at buy p) (in_order order_number order_live l) ≡ sum_by (shares_at buy p) l
unfolding shares_at
shares_view buy p l =
    sum_fold (shares_at buy p) (in_order order_number order_live l)
    ∙ fold_in_order (λ a n. shares_at buy p a + n) 0 order_number (λ a b y. omega arith) order_live (λ a y e. rw e (omega arith)) l
    ∙ sym (sum_fold (shares_at buy p) l)

-- ---- a side
pub level_none : (buy : Bool) → level_of buy [] ≡ None
unfolding level_of fold
level_none buy = refl

-- over the places and over the live orders
pub level_view : (buy : Bool) (l : List Order) → level_of buy (in_order order_number order_live l) ≡ level_by buy l (best_of buy l)
unfolding level_of
level_view buy l = rw (best_view buy l) (go (best_of buy l))
  where
    go : (b : Option ℕ) → level_by buy (in_order order_number order_live l) b ≡ level_by buy l b
    go None = refl
    go (Some p) = ap (level_at p) (shares_view buy p l)

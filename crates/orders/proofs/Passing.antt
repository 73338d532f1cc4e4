-- A pass over a shelf, order by order, has the fold of what it passed, and the row of it.
use mathlib.Core.Bool.{Bool, true}
use mathlib.Core.List.{List, [], ◌∷◌}
use mathlib.Core.Path.{◌≡◌, refl, sym, ap, ◌∙◌}
use Prim.Native.Nat.{ℕ, zero, suc, ◌+◌, ◌<◌}
use native.Mathlib.Nat.{le_of_suc-le-suc, not-suc-le-zero}
use native.Mathlib.Numerals.{add-one}
use native.Mathlib.Omega.{arith}
use lib.ListN.{length, get_or, take}
use Rattle.std.specs.Prelude.{Option, Some, None}
use Rattle.places.specs.Places.{fold, sum_by, one}
use Rattle.places.proofs.Sums.{sum_fold}
use Rattle.orders.specs.Levels.{shares_at, best_step, best_of, no_best}
use Rattle.orders.specs.Rows.{next_step, next_of, stands_at, row_if, row_after}
use Rattle.orders.specs.Passing.{row_step}
use Rattle.orders.specs.declared.Order.{Order}
use Rattle.orders.specs.declared.rows.LevelRow.{LevelRow}
use Rattle.orders.proofs.Quoting.{best_comm}
use Rattle.orders.proofs.SideRows.{next_comm}
use Rattle.orders.proofs.Deepening.{row_more}

module _ {A B : Type 0} (f : A → B → B) (z : B) (comm : (a b : A) (y : B) → f a (f b y) ≡ f b (f a y)) where
  fold_next : (l : List A) (j : ℕ) (d : A) → j < length l → f (get_or l j d) (fold f z (take j l)) ≡ fold f z (take (suc j) l)
  unfolding fold
  fold_next [] j d h = absurd (not-suc-le-zero h)
  fold_next (x ∷ l) zero d h = refl
  fold_next (x ∷ l) (suc j) d h = comm (get_or l j d) x (fold f z (take j l)) ∙ ap (f x) (fold_next l j d (le_of_suc-le-suc h))

  pub fold_more : (l : List A) (j : ℕ) (d : A) → j < length l → f (get_or l j d) (fold f z (take j l)) ≡ fold f z (take (j + 1) l)
  fold_more l j d h = rw (add-one j) (fold_next l j d h)

pub sum_more : {A : Type 0} (v : A → ℕ) (l : List A) (j : ℕ) (d : A) → j < length l → v (get_or l j d) + sum_by v (take j l) ≡ sum_by v (take (j + 1) l)
sum_more v l j d h = ap (λ (n : ℕ). v (get_or l j d) + n) (sum_fold v (take j l)) ∙ fold_more (λ a n. v a + n) 0 (λ a b y. omega arith) l j d h ∙ sym (sum_fold v (take (j + 1) l))

module _ (buy : Bool) (l : List Order) (j : ℕ) (d : Order) (h : j < length l) where
  pub best_more : best_step buy (get_or l j d) (best_of buy (take j l)) ≡ best_of buy (take (j + 1) l)
  best_more = fold_more (best_step buy) no_best (best_comm buy) l j d h

  pub row_with_more : (before : LevelRow) → row_step buy before (get_or l j d) (row_after buy before (take j l)) ≡ row_after buy before (take (j + 1) l)
  unfolding row_after fold sum_by
  row_with_more before =
      row_more buy before (get_or l j d) (take j l)
      ∙ ap (row_if buy (get_or l j d ∷ take j l)) (fold_more (next_step buy before) no_best (next_comm buy before) l j d h)
      ∙ row_same (next_of buy before (take (j + 1) l))
    where
      row_same : (p : Option ℕ) → row_if buy (get_or l j d ∷ take j l) p ≡ row_if buy (take (j + 1) l) p
      row_same None = refl
      row_same (Some p) = λ i. record { used = true; price = p; size = sum_more (shares_at buy p) l j d h i; orders = sum_more (λ o. one (stands_at buy p o)) l j d h i }

-- The rows of a side: ten rows filled one by one, and that neither a price, a sum nor a count depends on where an order lies.
use mathlib.Core.Bool.{Bool, true, false, cond, true≢false}
use mathlib.Core.List.{List, [], ◌∷◌, ◌++◌, append-nil}
use mathlib.Core.Path.{◌≡◌, refl, sym, ap, ◌∙◌}
use Prim.Native.Nat.{ℕ, zero, suc, ◌+◌, ◌-◌, ◌<◌}
use native.Mathlib.Nat.{zero-add, add-zero}
use native.Mathlib.Omega.{arith}
use lib.ListN.{length, get_or, set, take, drop, replicate, length-replicate, take-append-drop}
use lib.Seq.{paste, paste-zero, get_or-drop, drop-drop, take_all}
use Rattle.std.specs.Prelude.{Option, Some, None}
use Rattle.places.specs.Places.{fold, count, one, in_order}
use Rattle.places.proofs.Shelves.{paste_next, drop_replicated}
use Rattle.places.proofs.Sums.{fold_in_order, sum_fold}
use Rattle.orders.specs.State.{order_number, order_live}
use Rattle.orders.specs.Levels.{best_step, no_best}
use Rattle.orders.specs.Rows.{levels, no_row, beyond, next_step, next_of, stands_at, row_of, row_if, row_after, rows_from, side_rows}
use Rattle.orders.proofs.Quoting.{best_comm, shares_view}
use Rattle.orders.specs.declared.Order.{Order}
use Rattle.orders.specs.declared.rows.LevelRow.{LevelRow}

-- ---- a row that is not used is the empty one
unused_is_empty : (buy : Bool) (before : LevelRow) (os : List Order) → (row_after buy before os).used ≡ false → row_after buy before os ≡ no_row
unfolding row_after
unused_is_empty buy before os = go (next_of buy before os)
  where
    go : (p : Option ℕ) → (row_if buy os p).used ≡ false → row_if buy os p ≡ no_row
    go (Some p) e = absurd (true≢false e)
    go None e = refl

-- ---- so many rows
rows_length : (n : ℕ) (buy : Bool) (before : LevelRow) (os : List Order) → length (rows_from n buy before os) ≡ n
unfolding rows_from
rows_length zero buy before os = refl
rows_length (suc n) buy before os = go (rows_length n buy (row_after buy before os) os) (row_after buy before os).used
  where
    go : length (rows_from n buy (row_after buy before os) os) ≡ n → (u : Bool) → length (row_after buy before os ∷ cond u (rows_from n buy (row_after buy before os) os) (replicate n no_row)) ≡ suc n
    go ih true = ap suc ih
    go ih false = ap suc (length-replicate n no_row)

pub ten_rows : (buy : Bool) (os : List Order) → length (side_rows buy os) ≡ levels
unfolding side_rows
ten_rows buy os = rows_length levels buy no_row os

-- with a used row first, or none
pub rows_used : (n : ℕ) (buy : Bool) (before : LevelRow) (os : List Order) → (row_after buy before os).used ≡ true → rows_from (suc n) buy before os ≡ row_after buy before os ∷ rows_from n buy (row_after buy before os) os
unfolding rows_from
rows_used n buy before os u = rw u

pub rows_unused : (n : ℕ) (buy : Bool) (before : LevelRow) (os : List Order) → (row_after buy before os).used ≡ false → rows_from (suc n) buy before os ≡ replicate (suc n) no_row
unfolding rows_from
rows_unused n buy before os u = ap (λ (r : LevelRow). r ∷ cond r.used (rows_from n buy r os) (replicate n no_row)) (unused_is_empty buy before os u)

-- ---- filled one by one: the first i are there, the others empty, and those to come follow the row before
pub record Filled (buy : Bool) (os : List Order) (before : LevelRow) (i : ℕ) (rows : List LevelRow) : Type 0 where
  pub shown : rows ≡ paste (replicate levels no_row) 0 (side_rows buy os) i
  pub to_come : drop i (side_rows buy os) ≡ rows_from (levels - i) buy before os

module _ (buy : Bool) (os : List Order) where
  pub filled_none : Filled buy os no_row 0 (replicate levels no_row)
  unfolding side_rows
  filled_none = record { shown = paste-zero (replicate levels no_row) 0 (side_rows buy os); to_come = refl }

  module _ (before : LevelRow) (i : ℕ) (rows : List LevelRow) (h : i < levels) (f : Filled buy os before i rows) where
    more : levels - i ≡ suc (levels - (i + 1))
    more = omega (arith, h)

    pub filled_next : (row_after buy before os).used ≡ true → Filled buy os (row_after buy before os) (i + 1) (set rows i (row_after buy before os))
    filled_next u = record {
      shown = rw (f.shown, ← here) (paste_next (replicate levels no_row) (side_rows buy os) i no_row h (rw (ten_rows buy os) h));
      to_come = sym (drop-drop 1 i (side_rows buy os)) ∙ ap (drop 1) comes;
    }
      where
        comes : drop i (side_rows buy os) ≡ row_after buy before os ∷ rows_from (levels - (i + 1)) buy (row_after buy before os) os
        comes = f.to_come ∙ ap (λ (n : ℕ). rows_from n buy before os) more ∙ rows_used (levels - (i + 1)) buy before os u

        here : get_or (side_rows buy os) i no_row ≡ row_after buy before os
        here = sym (get_or-drop i (side_rows buy os) 0 no_row ∙ ap (λ (n : ℕ). get_or (side_rows buy os) n no_row) (add-zero i)) ∙ ap (λ (l : List LevelRow). get_or l 0 no_row) comes

    pub filled_short : (row_after buy before os).used ≡ false → rows ≡ side_rows buy os
    filled_short u = f.shown ∙ ap (λ (l : List LevelRow). take i (side_rows buy os) ++ l) rest ∙ take-append-drop i (side_rows buy os)
      where
        rest : drop (0 + i) (replicate levels no_row) ≡ drop i (side_rows buy os)
        rest = ap (λ (n : ℕ). drop n (replicate levels no_row)) (zero-add i) ∙ drop_replicated no_row i levels ∙ ap (λ (n : ℕ). replicate n no_row) more ∙ sym (rows_unused (levels - (i + 1)) buy before os u) ∙ sym (ap (λ (n : ℕ). rows_from n buy before os) more) ∙ sym f.to_come

  pub filled_all : (before : LevelRow) (rows : List LevelRow) → Filled buy os before levels rows → rows ≡ side_rows buy os
  filled_all before rows f = f.shown ∙ append-nil (take levels (side_rows buy os)) ∙ take_all levels (side_rows buy os) (omega (arith, ten_rows buy os))

-- ---- over the places and over the live orders
pub next_comm : (buy : Bool) (before : LevelRow) (a b : Order) (y : Option ℕ) → next_step buy before a (next_step buy before b y) ≡ next_step buy before b (next_step buy before a y)
unfolding next_step
next_comm buy before a b y = go (beyond buy before a.price) (beyond buy before b.price)
  where
    go : (s t : Bool) → cond s (best_step buy a (cond t (best_step buy b y) y)) (cond t (best_step buy b y) y) ≡ cond t (best_step buy b (cond s (best_step buy a y) y)) (cond s (best_step buy a y) y)
    go true true = best_comm buy a b y
    go true false = refl
    go false true = refl
    go false false = refl

next_view : (buy : Bool) (before : LevelRow) (l : List Order) → next_of buy before (in_order order_number order_live l) ≡ next_of buy before l
unfolding next_step best_step
next_view buy before l = fold_in_order (next_step buy before) no_best order_number (next_comm buy before) order_live (λ a y e. rw e (go (beyond buy before a.price) y)) l
  where
    go : (s : Bool) (y : Option ℕ) → cond s y y ≡ y
    go true y = refl
    go false y = refl

stands_view : (buy : Bool) (p : ℕ) (l : List Order) → count (stands_at buy p) (in_order order_number order_live l) ≡ count (stands_at buy p) l
unfolding stands_at
stands_view buy p l =
    sum_fold (λ o. one (stands_at buy p o)) (in_order order_number order_live l)
    ∙ fold_in_order (λ o n. one (stands_at buy p o) + n) 0 order_number (λ a b y. omega arith) order_live (λ a y e. rw e (omega arith)) l
    ∙ sym (sum_fold (λ o. one (stands_at buy p o)) l)

row_view : (buy : Bool) (p : ℕ) (l : List Order) → row_of buy p (in_order order_number order_live l) ≡ row_of buy p l
row_view buy p l = λ i. record { used = true; price = p; size = shares_view buy p l i; orders = stands_view buy p l i }

after_view : (buy : Bool) (before : LevelRow) (l : List Order) → row_after buy before (in_order order_number order_live l) ≡ row_after buy before l
unfolding row_after
after_view buy before l = ap (row_if buy (in_order order_number order_live l)) (next_view buy before l) ∙ go (next_of buy before l)
  where
    go : (p : Option ℕ) → row_if buy (in_order order_number order_live l) p ≡ row_if buy l p
    go None = refl
    go (Some p) = row_view buy p l

rows_view : (n : ℕ) (buy : Bool) (before : LevelRow) (l : List Order) → rows_from n buy before (in_order order_number order_live l) ≡ rows_from n buy before l
unfolding rows_from
rows_view zero buy before l = refl
rows_view (suc n) buy before l =
    ap (λ (r : LevelRow). r ∷ cond r.used (rows_from n buy r (in_order order_number order_live l)) (replicate n no_row)) (after_view buy before l)
    ∙ ap (λ (t : List LevelRow). row_after buy before l ∷ cond (row_after buy before l).used t (replicate n no_row)) (rows_view n buy (row_after buy before l) l)

pub side_view : (buy : Bool) (l : List Order) → side_rows buy (in_order order_number order_live l) ≡ side_rows buy l
unfolding side_rows
side_view buy l = rows_view levels buy no_row l

-- of no order there is none
pub side_none : (buy : Bool) → side_rows buy [] ≡ replicate levels no_row
unfolding side_rows rows_from row_after fold
side_none buy = refl

-- What is said of the rows of a side: each row is the best of what is beyond the row before, so every used one is beyond all before it, and what no row has is beyond the last.
use mathlib.Core.Bool.{Bool, true, false, cond, true≢false, false≢true}
use mathlib.Core.List.Memᴰ
use mathlib.Core.List.{List, [], ◌∷◌, Memᴰ}
use mathlib.Core.Logic.{◌⊎◌, inl, inr}
use mathlib.Core.Path.{◌≡◌, refl, sym, ap, ◌∙◌, subst}
use Prim.Native.Nat.{ℕ, zero, suc, ◌<◌, ◌≤◌}
use native.Mathlib.Nat.{le_of_suc-le-suc, not-suc-le-zero}
use native.Mathlib.Omega.{arith}
use borrow.Author.Tests.{eqb-true, eqb-false, eq-eqb, ltb-true, lt-ltb}
use lib.Dec.{eqb}
use lib.ListN.{replicate}
use Rattle.std.specs.Prelude.{Option, Some, None}
use Rattle.places.specs.Places.{fold, sum_by, count}
use Rattle.places.proofs.Shelves.{get_or_replicated}
use Rattle.orders.specs.Levels.{counts, best_step, best_of, level_by, level_of, NoBetter, Attained}
use Rattle.orders.specs.Rows.{levels, no_row, ahead, beyond, next_step, next_of, stands_at, row_of, row_if, row_after, rows_from, side_rows, row_at, as_level, Better, Ranks, has_a_row, past_the_last, OfRows}
use Rattle.orders.specs.declared.Order.{Order}
use Rattle.orders.specs.declared.rows.LevelRow.{LevelRow}
use Rattle.orders.proofs.Sides.{NoWorse, step_attained}
use Rattle.orders.proofs.Deepening.{next_of_all, next_beyond}
use Rattle.orders.proofs.SideRows.{ten_rows, rows_used, rows_unused}

-- ---- strictly better
better_than : (buy : Bool) (p q : ℕ) → ahead buy p q ≡ true → Better buy p q
better_than true p q h = ltb-true q p h
better_than false p q h = ltb-true p q h

is_ahead : (buy : Bool) (p q : ℕ) → NoBetter buy p q → (p ≡ q → ⊥) → ahead buy p q ≡ true
is_ahead true p q h ne = lt-ltb q p (omega (arith, h, ne))
is_ahead false p q h ne = lt-ltb p q (omega (arith, h, ne))

ahead_of_all : (buy : Bool) (p q r : ℕ) → ahead buy p q ≡ true → ahead buy q r ≡ true → ahead buy p r ≡ true
ahead_of_all true p q r h g = lt-ltb r p (let x = ltb-true q p h in let y = ltb-true r q g in omega arith)
ahead_of_all false p q r h g = lt-ltb p r (let x = ltb-true p q h in let y = ltb-true q r g in omega arith)

-- beyond a row that is beyond another
further : (buy : Bool) (before row : LevelRow) (p : ℕ) → row.used ≡ true → beyond buy before row.price ≡ true → beyond buy row p ≡ true → beyond buy before p ≡ true
further buy before row p u h g = go before.used h
  where
    go : (t : Bool) → cond t (ahead buy before.price row.price) true ≡ true → cond t (ahead buy before.price p) true ≡ true
    go true k = ahead_of_all buy before.price row.price p k (rw u at g)
    go false k = refl

-- ---- a live order of the side stands at the best price beyond a row
module _ (buy : Bool) (before : LevelRow) where
  next_attained : (os : List Order) (p : ℕ) → next_of buy before os ≡ Some p → Attained buy p os
  unfolding fold next_step
  next_attained [] p e = cc
  next_attained (x ∷ os) p e = go (next_attained os) (beyond buy before x.price) e
    where
      go : ((q : ℕ) → next_of buy before os ≡ Some q → Attained buy q os) → (d : Bool) → cond d (best_step buy x (next_of buy before os)) (next_of buy before os) ≡ Some p → Attained buy p (x ∷ os)
      go ih true k = step_attained buy x os (next_of buy before os) ih p k
      go ih false k = let a = ih p k in record { order = a.order; live = Memᴰ.tail a.live; side = a.side; at = a.at }

-- an order that stands there is counted
is_counted : (buy : Bool) (p : ℕ) (o : Order) → stands_at buy p o ≡ true → (os : List Order) → Memᴰ o os → 1 ≤ count (stands_at buy p) os
unfolding sum_by
is_counted buy p o s [] m = absurd (Memᴰ.not-nil m)
is_counted buy p o s (x ∷ os) m = go (is_counted buy p o s os) (Memᴰ.cases_cons m)
  where
    go : (Memᴰ o os → 1 ≤ count (stands_at buy p) os) → (o ≡ x) ⊎ Memᴰ o os → 1 ≤ count (stands_at buy p) (x ∷ os)
    go ih (inl e) = let t : stands_at buy p x ≡ true = (rw e at s) in rw t (omega arith)
    go ih (inr k) = omega (arith, ih k)

attained_counts : (buy : Bool) (p : ℕ) (os : List Order) → Attained buy p os → 1 ≤ count (stands_at buy p) os
unfolding stands_at
attained_counts buy p os a = is_counted buy p a.order (rw a.side (eq-eqb a.order.price p a.at)) os a.live

-- ---- a row that is found
module _ (buy : Bool) (os : List Order) where
  record Found (before row : LevelRow) : Type 0 where
    pub is_row : row ≡ row_of buy row.price os
    pub comes_after : beyond buy before row.price ≡ true
    pub stands : 1 ≤ row.orders

  found : (before : LevelRow) → (row_after buy before os).used ≡ true → Found before (row_after buy before os)
  unfolding row_after
  found before = go (next_of buy before os) refl
    where
      go : (p : Option ℕ) → next_of buy before os ≡ p → (row_if buy os p).used ≡ true → Found before (row_if buy os p)
      go (Some p) e u = record { is_row = refl; comes_after = next_beyond buy before os p e; stands = attained_counts buy p os (next_attained buy before os p e) }
      go None e u = absurd (false≢true u)

  abbrev next : LevelRow → LevelRow
  next before = row_after buy before os

  -- of rows: the next one is used and the others follow it, or all are empty
  by_next : (n : ℕ) (before : LevelRow) (P : List LevelRow → Type 0) → ((next before).used ≡ true → P (next before ∷ rows_from n buy (next before) os)) → ((next before).used ≡ false → P (replicate (suc n) no_row))
      → P (rows_from (suc n) buy before os)
  by_next n before P there none = go (next before).used refl
    where
      go : (t : Bool) → (next before).used ≡ t → P (rows_from (suc n) buy before os)
      go true e = subst P (sym (rows_used n buy before os e)) (there e)
      go false e = subst P (sym (rows_unused n buy before os e)) (none e)

  no_row_used : (n i : ℕ) → (row_at (replicate n no_row) i).used ≡ true → ⊥
  no_row_used n i u = false≢true (sym (ap (λ (r : LevelRow). r.used) (get_or_replicated no_row n i)) ∙ u)

  -- ---- every used row is found behind the row before all
  abbrev EachFound : ℕ → LevelRow → List LevelRow → Type 0
  EachFound n before rows = (i : ℕ) → i < n → (row_at rows i).used ≡ true → Found before (row_at rows i)

  found_behind : (n : ℕ) (before : LevelRow) (rows : List LevelRow) → (next before).used ≡ true → EachFound n (next before) rows → EachFound (suc n) before (next before ∷ rows)
  found_behind n before rows e ih zero h u = found before e
  found_behind n before rows e ih (suc i) h u =
      let f = ih i (le_of_suc-le-suc h) u in
      record { is_row = f.is_row; comes_after = further buy before (next before) _ e (found before e).comes_after f.comes_after; stands = f.stands }

  each_found : (n : ℕ) (before : LevelRow) → EachFound n before (rows_from n buy before os)
  each_found zero before = λ i h u. absurd (not-suc-le-zero h)
  each_found (suc n) before =
      by_next n before (EachFound (suc n) before)
      (λ e. found_behind n before (rows_from n buy (next before) os) e (each_found n (next before)))
      (λ e i h u. absurd (no_row_used (suc n) i u))

  -- ---- best first
  abbrev BestFirst : ℕ → List LevelRow → Type 0
  BestFirst n rows = (i j : ℕ) → i < j → j < n → (row_at rows j).used ≡ true → ((row_at rows i).used ≡ true) × Better buy (row_at rows i).price (row_at rows j).price

  first_behind : (n : ℕ) (row : LevelRow) (rows : List LevelRow) → row.used ≡ true → EachFound n row rows → BestFirst n rows → BestFirst (suc n) (row ∷ rows)
  first_behind n row rows e f ih i zero h k u = absurd (not-suc-le-zero h)
  first_behind n row rows e f ih zero (suc j) h k u = (e, better_than buy _ _ (rw e at (f j (le_of_suc-le-suc k) u).comes_after))
  first_behind n row rows e f ih (suc i) (suc j) h k u = ih i j (le_of_suc-le-suc h) (le_of_suc-le-suc k) u

  best_first : (n : ℕ) (before : LevelRow) → BestFirst n (rows_from n buy before os)
  best_first zero before = λ i j h k u. absurd (not-suc-le-zero k)
  best_first (suc n) before =
      by_next n before (BestFirst (suc n))
      (λ e. first_behind n (next before) (rows_from n buy (next before) os) e (each_found n (next before)) (best_first n (next before)))
      (λ e i j h k u. absurd (no_row_used (suc n) j u))

  -- ---- a row that is not used is empty
  abbrev UnusedEmpty : ℕ → List LevelRow → Type 0
  UnusedEmpty n rows = (i : ℕ) → i < n → (row_at rows i).used ≡ false → row_at rows i ≡ no_row

  empty_behind : (n : ℕ) (row : LevelRow) (rows : List LevelRow) → row.used ≡ true → UnusedEmpty n rows → UnusedEmpty (suc n) (row ∷ rows)
  empty_behind n row rows e ih zero h u = absurd (true≢false (sym e ∙ u))
  empty_behind n row rows e ih (suc i) h u = ih i (le_of_suc-le-suc h) u

  unused_empty : (n : ℕ) (before : LevelRow) → UnusedEmpty n (rows_from n buy before os)
  unused_empty zero before = λ i h u. absurd (not-suc-le-zero h)
  unused_empty (suc n) before =
      by_next n before (UnusedEmpty (suc n))
      (λ e. empty_behind n (next before) (rows_from n buy (next before) os) e (unused_empty n (next before)))
      (λ e i h u. get_or_replicated no_row (suc n) i)

  -- ---- none is left out: what is beyond the row before is at the next one, or beyond it
  record NextFor (before : LevelRow) (p : ℕ) : Type 0 where
    pub used : (next before).used ≡ true
    pub no_better : NoBetter buy (next before).price p

  next_for : (before : LevelRow) (o : Order) → Memᴰ o os → counts buy o ≡ true → beyond buy before o.price ≡ true → NextFor before o.price
  unfolding row_after
  next_for before o m c t = go (next_of buy before os) refl (next_of_all buy before os o m c t)
    where
      go : (p : Option ℕ) → next_of buy before os ≡ p → NoWorse buy o.price p → NextFor before o.price
      go None e h = absurd h
      go (Some p) e h = record { used = rw e refl; no_better = rw e h }

  ranks_behind : (n p : ℕ) (row : LevelRow) (rows : List LevelRow) → row.used ≡ true → Better buy row.price p → Ranks n buy p rows → Ranks (suc n) buy p (row ∷ rows)
  ranks_behind n p row rows e b (has_a_row i h u q) = has_a_row (suc i) (omega (arith, h)) u q
  ranks_behind n p row rows e b (past_the_last all) = past_the_last go
    where
      go : (i : ℕ) → i < suc n → ((row_at (row ∷ rows) i).used ≡ true) × Better buy (row_at (row ∷ rows) i).price p
      go zero h = (e, b)
      go (suc i) h = all i (le_of_suc-le-suc h)

  none_left_out : (n : ℕ) (before : LevelRow) (o : Order) → Memᴰ o os → counts buy o ≡ true → beyond buy before o.price ≡ true → Ranks n buy o.price (rows_from n buy before os)
  none_left_out zero before o m c t = past_the_last (λ i h. absurd (not-suc-le-zero h))
  none_left_out (suc n) before o m c t =
      let f = next_for before o m c t in
      subst (Ranks (suc n) buy o.price) (sym (rows_used n buy before os f.used)) (go (none_left_out n (next before) o m c) f (eqb (next before).price o.price) refl)
    where
      go : (beyond buy (next before) o.price ≡ true → Ranks n buy o.price (rows_from n buy (next before) os)) → NextFor before o.price → (t : Bool) → eqb (next before).price o.price ≡ t
          → Ranks (suc n) buy o.price (next before ∷ rows_from n buy (next before) os)
      go ih f true e = has_a_row 0 (omega arith) f.used (eqb-true (next before).price o.price e)
      go ih f false e =
          let a = is_ahead buy (next before).price o.price f.no_better (eqb-false (next before).price o.price e) in
          ranks_behind n o.price (next before) (rows_from n buy (next before) os) f.used (better_than buy _ _ a) (ih (rw f.used a))

  -- ---- all of it, of the ten rows
  pub of_rows : OfRows buy os (side_rows buy os)
  unfolding side_rows
  of_rows = record {
    ten = ten_rows buy os;
    best_first = best_first levels no_row;
    exact = λ i h u. let f = each_found levels no_row i h u in (ap (λ (r : LevelRow). r.size) f.is_row, ap (λ (r : LevelRow). r.orders) f.is_row, f.stands);
    none_left_out = λ o m c. none_left_out levels no_row o m c refl;
    unused_empty = unused_empty levels no_row;
  }

  -- ---- the first row is the level of the quote
  pub first_row_is_the_level : as_level (row_at (side_rows buy os) 0) ≡ level_of buy os
  unfolding side_rows rows_from row_after level_of next_step
  first_row_is_the_level = go (best_of buy os)
    where
      go : (b : Option ℕ) → as_level (row_if buy os b) ≡ level_by buy os b
      go None = refl
      go (Some p) = refl

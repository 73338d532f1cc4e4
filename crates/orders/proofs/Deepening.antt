-- A pass over the orders has the row of the best price beyond the row before: at a better price nothing was met yet.
use mathlib.Core.Bool.{Bool, true, false, cond, false≢true}
use mathlib.Core.List.Memᴰ
use mathlib.Core.List.{List, [], ◌∷◌, Memᴰ}
use mathlib.Core.Logic.{◌⊎◌, inl, inr}
use mathlib.Core.Path.{◌≡◌, refl, sym, ap, ◌∙◌}
use Prim.Native.Nat.{ℕ, max, min}
use native.Mathlib.Omega.{arith}
use borrow.Author.Tests.{eqb-true, eqb-false, eq-eqb, ltb-true, ltb-false, le-ltb}
use lib.Dec.{eqb, ltb}
use Rattle.std.specs.Prelude.{Option, Some, None}
use Rattle.places.specs.Places.{fold, sum_by, count}
use Rattle.orders.specs.Levels.{counts, better, best_step, shares_at, NoBetter}
use Rattle.orders.specs.Rows.{no_row, ahead, beyond, next_step, next_of, stands_at, row_of, row_if, row_after}
use Rattle.orders.specs.Passing.{alone, joined, met_by, row_step}
use Rattle.orders.specs.declared.Order.{Order}
use Rattle.orders.specs.declared.rows.LevelRow.{LevelRow}
use Rattle.orders.proofs.Sides.{NoWorse, kept_best, own_best}

-- ---- the best price beyond a row
-- no live order of the side that is beyond it is better
pub next_of_all : (buy : Bool) (b : LevelRow) (os : List Order) (o : Order) → Memᴰ o os → counts buy o ≡ true → beyond buy b o.price ≡ true → NoWorse buy o.price (next_of buy b os)
unfolding fold next_step
next_of_all buy b [] o m c t = absurd (Memᴰ.not-nil m)
next_of_all buy b (x ∷ os) o m c t = go (next_of_all buy b os o) (Memᴰ.cases_cons m) (beyond buy b x.price) refl
  where
    go : (Memᴰ o os → counts buy o ≡ true → beyond buy b o.price ≡ true → NoWorse buy o.price (next_of buy b os)) → (o ≡ x) ⊎ Memᴰ o os
        → (d : Bool) → beyond buy b x.price ≡ d → NoWorse buy o.price (cond d (best_step buy x (next_of buy b os)) (next_of buy b os))
    go ih (inl e) true q = rw e (own_best buy x (next_of buy b os) (rw e at c))
    go ih (inl e) false q = absurd (false≢true (sym q ∙ ap (λ (y : Order). beyond buy b y.price) (sym e) ∙ t))
    go ih (inr k) true q = kept_best buy o.price x (next_of buy b os) (ih k c t)
    go ih (inr k) false q = ih k c t

-- so at a better price that is beyond it, nothing stands
record NoneAt (buy : Bool) (p : ℕ) (os : List Order) : Type 0 where
  pub sum : sum_by (shares_at buy p) os ≡ 0
  pub none : count (stands_at buy p) os ≡ 0

nobody_there : (buy : Bool) (p : ℕ) (os : List Order) → ((o : Order) → Memᴰ o os → counts buy o ≡ true → o.price ≡ p → ⊥) → NoneAt buy p os
unfolding sum_by shares_at stands_at
nobody_there buy p [] away = record { sum = refl; none = refl }
nobody_there buy p (x ∷ os) away = go (nobody_there buy p os (λ o m. away o (Memᴰ.tail m))) (counts buy x) refl (eqb x.price p) refl
  where
    go : NoneAt buy p os → (c : Bool) → counts buy x ≡ c → (e : Bool) → eqb x.price p ≡ e → NoneAt buy p (x ∷ os)
    go z false qc e qe = record { sum = rw qc (omega (arith, z.sum)); none = rw qc (omega (arith, z.none)) }
    go z true qc false qe = record { sum = rw (qc, qe) (omega (arith, z.sum)); none = rw (qc, qe) (omega (arith, z.none)) }
    go z true qc true qe = absurd (away x (Memᴰ.head refl) qc (eqb-true x.price p qe))

not_both : (buy : Bool) (p q : ℕ) → ahead buy p q ≡ true → NoBetter buy q p → ⊥
not_both true p q h g = let z = ltb-true q p h in omega arith
not_both false p q h g = let z = ltb-true p q h in omega arith

none_at : (buy : Bool) (b : LevelRow) (p : ℕ) (os : List Order) → beyond buy b p ≡ true → ((q : ℕ) → next_of buy b os ≡ Some q → ahead buy p q ≡ true) → NoneAt buy p os
none_at buy b p os t lead = nobody_there buy p os (λ o m c e. go (next_of buy b os) refl (rw e at (next_of_all buy b os o m c (rw e t))))
  where
    go : (d : Option ℕ) → next_of buy b os ≡ d → NoWorse buy p d → ⊥
    go None q h = h
    go (Some r) q h = not_both buy p r (lead r q) h

-- the best price beyond a row is beyond it
pub next_beyond : (buy : Bool) (b : LevelRow) (os : List Order) (p : ℕ) → next_of buy b os ≡ Some p → beyond buy b p ≡ true
unfolding fold next_step best_step
next_beyond buy b [] p e = cc
next_beyond buy b (x ∷ os) p e = go (next_beyond buy b os) (counts buy x) (beyond buy b x.price) refl (next_of buy b os) refl e
  where
    picks : (side : Bool) (q : ℕ) → beyond buy b q ≡ true → beyond buy b x.price ≡ true → beyond buy b (cond side (max q x.price) (min q x.price)) ≡ true
    picks true q h g = pick (ltb q x.price) refl
      where
        pick : (t : Bool) → ltb q x.price ≡ t → beyond buy b (max q x.price) ≡ true
        pick true z = let w : max q x.price ≡ x.price = (let y = ltb-true q x.price z in omega arith) in rw w g
        pick false z = let w : max q x.price ≡ q = (let y = ltb-false q x.price z in omega arith) in rw w h
    picks false q h g = pick (ltb q x.price) refl
      where
        pick : (t : Bool) → ltb q x.price ≡ t → beyond buy b (min q x.price) ≡ true
        pick true z = let w : min q x.price ≡ q = (let y = ltb-true q x.price z in omega arith) in rw w h
        pick false z = let w : min q x.price ≡ x.price = (let y = ltb-false q x.price z in omega arith) in rw w g

    go : ((q : ℕ) → next_of buy b os ≡ Some q → beyond buy b q ≡ true) → (c d : Bool) → beyond buy b x.price ≡ d
        → (m : Option ℕ) → next_of buy b os ≡ m → cond d (cond c (better buy x.price m) m) m ≡ Some p → beyond buy b p ≡ true
    go ih true true q None f k = let to : x.price ≡ p = cc in rw to at q
    go ih true true q (Some r) f k = let to : cond buy (max r x.price) (min r x.price) ≡ p = cc in rw to at (picks buy r (ih r f) q)
    go ih false true q m f k = ih p (f ∙ k)
    go ih c false q m f k = ih p (f ∙ k)

-- ---- one order more
row_eq : (p q m n k l : ℕ) → p ≡ q → m ≡ n → k ≡ l → ◌≡◌ {A = LevelRow} (record { used = true; price = p; size = m; orders = k }) (record { used = true; price = q; size = n; orders = l })
row_eq p q m n k l e f g = λ i. record { used = true; price = e i; size = f i; orders = g i }

module _ (buy : Bool) (b : LevelRow) (x : Order) (os : List Order) where
  abbrev n : Option ℕ
  n = next_of buy b os

  -- an order that is not at the price leaves the row
  elsewhere : (p : ℕ) → (counts buy x ≡ true → x.price ≡ p → ⊥) → row_of buy p os ≡ row_of buy p (x ∷ os)
  unfolding sum_by shares_at stands_at
  elsewhere p ne = go (counts buy x) refl (eqb x.price p) refl
    where
      go : (c : Bool) → counts buy x ≡ c → (e : Bool) → eqb x.price p ≡ e → row_of buy p os ≡ row_of buy p (x ∷ os)
      go false qc e qe = row_eq _ _ _ _ _ _ refl (rw qc (omega arith)) (rw qc (omega arith))
      go true qc true qe = absurd (ne qc (eqb-true x.price p qe))
      go true qc false qe = row_eq _ _ _ _ _ _ refl (rw (qc, qe) (omega arith)) (rw (qc, qe) (omega arith))

  -- at its price it adds
  there : (p : ℕ) → counts buy x ≡ true → x.price ≡ p → joined x.volume (row_of buy p os) ≡ row_of buy p (x ∷ os)
  unfolding sum_by shares_at stands_at
  there p qc e = row_eq _ _ _ _ _ _ refl (rw (qc, eq-eqb x.price p e) (omega arith)) (rw (qc, eq-eqb x.price p e) (omega arith))

  -- and where nothing stood it stands alone
  first_there : counts buy x ≡ true → NoneAt buy x.price os → alone x.price x.volume ≡ row_of buy x.price (x ∷ os)
  unfolding sum_by shares_at stands_at
  first_there qc z = row_eq _ _ _ _ _ _ refl (rw (qc, eq-eqb x.price x.price refl) (omega (arith, z.sum))) (rw (qc, eq-eqb x.price x.price refl) (omega (arith, z.none)))

  -- the better of two prices
  better_is : (q : ℕ) (t : Bool) → ahead buy x.price q ≡ t → cond buy (max q x.price) (min q x.price) ≡ cond t x.price q
  better_is q = go buy
    where
      go : (side t : Bool) → ahead side x.price q ≡ t → cond side (max q x.price) (min q x.price) ≡ cond t x.price q
      go true true h = omega (arith, ltb-true q x.price h)
      go true false h = omega (arith, ltb-false q x.price h)
      go false true h = omega (arith, ltb-true x.price q h)
      go false false h = omega (arith, ltb-false x.price q h)

  not_ahead : (side : Bool) (p : ℕ) → ahead side p p ≡ false
  not_ahead true p = le-ltb p p (omega arith)
  not_ahead false p = le-ltb p p (omega arith)

  met : counts buy x ≡ true → beyond buy b x.price ≡ true → (m : Option ℕ) → n ≡ m → met_by buy x.price x.volume (row_if buy os m) ≡ row_if buy (x ∷ os) (better buy x.price m)
  met qc qd None s = first_there qc (none_at buy b x.price os qd (λ q t. let z : None ≡ Some q = sym s ∙ t in cc))
  met qc qd (Some q) s = level (eqb x.price q) refl (ahead buy x.price q) refl
    where
      level : (e : Bool) → eqb x.price q ≡ e → (t : Bool) → ahead buy x.price q ≡ t
          → cond e (joined x.volume (row_of buy q os)) (cond t (alone x.price x.volume) (row_of buy q os)) ≡ row_of buy (cond buy (max q x.price) (min q x.price)) (x ∷ os)
      level true qe t qt =
          let same : x.price ≡ q = eqb-true x.price q qe in
          let to : cond buy (max q x.price) (min q x.price) ≡ q = better_is q false (ap (λ (r : ℕ). ahead buy r q) same ∙ not_ahead buy q) in
          there q qc same ∙ ap (λ (r : ℕ). row_of buy r (x ∷ os)) (sym to)
      level false qe true qt =
          first_there qc (none_at buy b x.price os qd (λ r z. let same : q ≡ r = (let w : ◌≡◌ {A = Option ℕ} (Some q) (Some r) = sym s ∙ z in cc) in rw same at qt)) ∙ ap (λ (r : ℕ). row_of buy r (x ∷ os)) (sym (better_is q true qt))
      level false qe false qt =
          elsewhere q (λ c e. eqb-false x.price q qe e) ∙ ap (λ (r : ℕ). row_of buy r (x ∷ os)) (sym (better_is q false qt))

  pub row_more : row_step buy b x (row_after buy b os) ≡ row_after buy b (x ∷ os)
  unfolding row_step row_after fold next_step best_step
  row_more = go (counts buy x) refl (beyond buy b x.price) refl n refl
    where
      go : (c : Bool) → counts buy x ≡ c → (d : Bool) → beyond buy b x.price ≡ d → (m : Option ℕ) → n ≡ m
          → cond c (cond d (met_by buy x.price x.volume (row_if buy os m)) (row_if buy os m)) (row_if buy os m) ≡ row_if buy (x ∷ os) (cond d (cond c (better buy x.price m) m) m)
      go true qc true qd m qs = met qc qd m qs
      go true qc false qd (Some q) qs = elsewhere q (λ c e. false≢true (sym qd ∙ ap (beyond buy b) e ∙ next_beyond buy b os q qs))
      go true qc false qd None qs = refl
      go false qc true qd (Some q) qs = elsewhere q (λ c e. false≢true (sym qc ∙ c))
      go false qc false qd (Some q) qs = elsewhere q (λ c e. false≢true (sym qc ∙ c))
      go false qc true qd None qs = refl
      go false qc false qd None qs = refl

-- a pass over the orders has the row
pub row_fold : (buy : Bool) (b : LevelRow) (os : List Order) → fold (row_step buy b) no_row os ≡ row_after buy b os
unfolding fold row_after
row_fold buy b [] = refl
row_fold buy b (x ∷ os) = ap (row_step buy b x) (row_fold buy b os) ∙ row_more buy b x os

-- The quoted size is the sum over the live orders at the quoted price, and the best price is a fold of maxima, or minima, over them.
use mathlib.Core.Bool.{Bool, true, false, cond, beq}
use mathlib.Core.List.Memᴰ
use mathlib.Core.List.{List, [], ◌∷◌, Memᴰ}
use mathlib.Core.Logic.{◌⊎◌, inl, inr}
use mathlib.Core.Path.{◌≡◌, refl, sym, ap, ◌∙◌, subst}
use Prim.Native.Nat.{ℕ, ◌+◌, max, min}
use native.Mathlib.Omega.{arith}
use lib.Dec.{ltb}
use borrow.Author.Tests.{eq-eqb, ltb-true, ltb-false}
use Rattle.std.specs.Prelude.{Option, Some, None}
use Rattle.std.proofs.lemmas.Option.{same_Some}
use Rattle.places.specs.Places.{fold, sum_by, insert}
use Rattle.places.proofs.Sorted.{sum_insert}
use Rattle.places.proofs.Sums.{fold_insert}
use Rattle.orders.specs.State.{order_number}
use Rattle.orders.specs.Rules.{order_of}
use Rattle.orders.specs.Levels.{counts, better, best_step, no_best, best_of, shares_at, level_at, level_by, level_of, NoBetter, Attained}
use Rattle.orders.specs.declared.Order.{Order}
use Rattle.orders.specs.declared.levels.Level.{Level}
use Rattle.orders.proofs.Quoting.{best_comm}

-- ---- a level that shows a price
pub record Shows (buy : Bool) (os : List Order) (p n : ℕ) : Type 0 where
  pub best : best_of buy os ≡ Some p
  pub size : sum_by (shares_at buy p) os ≡ n

pub shows : (buy : Bool) (os : List Order) (p n : ℕ) → level_of buy os ≡ level_at p n → Shows buy os p n
unfolding level_of
shows buy os p n e = go (best_of buy os) refl e
  where
    go : (b : Option ℕ) → best_of buy os ≡ b → level_by buy os b ≡ level_at p n → Shows buy os p n
    go None q f = cc
    go (Some m) q f =
        let same : record { price = m; size = sum_by (shares_at buy m) os } ≡ record { price = p; size = n } = same_Some _ _ f in
        let price : m ≡ p = ap (λ (l : Level). l.price) same in
        record { best = q ∙ ap Some price; size = ap (λ (r : ℕ). sum_by (shares_at buy r) os) (sym price) ∙ ap (λ (l : Level). l.size) same }

-- ---- no live order of the side is better
-- there is a best price, and it is as good as this one
abbrev pub NoWorse : Bool → ℕ → Option ℕ → Type 0
NoWorse buy q None = ⊥
NoWorse buy q (Some p) = NoBetter buy p q

-- a price met is no better than the best of more
pub kept_best : (buy : Bool) (q : ℕ) (o : Order) (b : Option ℕ) → NoWorse buy q b → NoWorse buy q (best_step buy o b)
unfolding best_step
kept_best buy q o None h = absurd h
kept_best buy q o (Some p) h = go buy (counts buy o) h
  where
    go : (side t : Bool) → NoBetter side p q → NoWorse side q (cond t (better side o.price (Some p)) (Some p))
    go true true g = omega arith
    go false true g = omega arith
    go true false g = g
    go false false g = g

pub own_best : (buy : Bool) (o : Order) (b : Option ℕ) → counts buy o ≡ true → NoWorse buy o.price (best_step buy o b)
unfolding best_step
own_best buy o b c = rw c (go buy b)
  where
    go : (side : Bool) (b : Option ℕ) → NoWorse side o.price (better side o.price b)
    go true None = omega arith
    go true (Some p) = omega arith
    go false None = omega arith
    go false (Some p) = omega arith

pub best_of_all : (buy : Bool) (os : List Order) (o : Order) → Memᴰ o os → counts buy o ≡ true → NoWorse buy o.price (best_of buy os)
unfolding fold
best_of_all buy [] o m c = absurd (Memᴰ.not-nil m)
best_of_all buy (x ∷ os) o m c = go (best_of_all buy os o) (Memᴰ.cases_cons m)
  where
    go : (Memᴰ o os → counts buy o ≡ true → NoWorse buy o.price (best_of buy os)) → (o ≡ x) ⊎ Memᴰ o os → NoWorse buy o.price (best_of buy (x ∷ os))
    go ih (inl e) = rw e (own_best buy x (best_of buy os) (rw e at c))
    go ih (inr k) = kept_best buy o.price x (best_of buy os) (ih k c)

-- ---- a live order of the side stands at the best price: it is the price at hand or the best so far
module _ (buy : Bool) (x : Order) (os : List Order) where
  own : counts buy x ≡ true → (p : ℕ) → x.price ≡ p → Attained buy p (x ∷ os)
  own c p e = record { order = x; live = Memᴰ.head refl; side = c; at = e }

  kept : (q p : ℕ) → Attained buy q os → q ≡ p → Attained buy p (x ∷ os)
  kept q p a e = record { order = a.order; live = Memᴰ.tail a.live; side = a.side; at = a.at ∙ e }

  picked : counts buy x ≡ true → (side : Bool) (q : ℕ) → Attained buy q os → Attained buy (cond side (max q x.price) (min q x.price)) (x ∷ os)
  picked c true q a = go (ltb q x.price) refl
    where
      go : (t : Bool) → ltb q x.price ≡ t → Attained buy (max q x.price) (x ∷ os)
      go true e = own c _ (omega (arith, ltb-true q x.price e))
      go false e = kept q _ a (omega (arith, ltb-false q x.price e))
  picked c false q a = go (ltb q x.price) refl
    where
      go : (t : Bool) → ltb q x.price ≡ t → Attained buy (min q x.price) (x ∷ os)
      go true e = kept q _ a (omega (arith, ltb-true q x.price e))
      go false e = own c _ (omega (arith, ltb-false q x.price e))

  pub step_attained : (b : Option ℕ) → ((q : ℕ) → b ≡ Some q → Attained buy q os) → (p : ℕ) → best_step buy x b ≡ Some p → Attained buy p (x ∷ os)
  unfolding best_step
  step_attained b before p e = go (counts buy x) refl b refl e
    where
      go : (t : Bool) → counts buy x ≡ t → (d : Option ℕ) → b ≡ d → cond t (better buy x.price d) d ≡ Some p → Attained buy p (x ∷ os)
      go true c None q f = own c p cc
      go true c (Some m) q f = let to : cond buy (max m x.price) (min m x.price) ≡ p = cc in subst (λ (r : ℕ). Attained buy r (x ∷ os)) to (picked c buy m (before m q))
      go false c None q f = cc
      go false c (Some m) q f = kept m p (before m q) cc

pub attained_of_all : (buy : Bool) (os : List Order) (p : ℕ) → best_of buy os ≡ Some p → Attained buy p os
unfolding fold
attained_of_all buy [] p e = cc
attained_of_all buy (x ∷ os) p e = step_attained buy x os (best_of buy os) (attained_of_all buy os) p e

-- ---- where none is shown, none of the side is live
pub none_live : (buy : Bool) (os : List Order) → level_of buy os ≡ None → (o : Order) → Memᴰ o os → counts buy o ≡ true → ⊥
unfolding level_of
none_live buy os e o m c = go (best_of buy os) e (best_of_all buy os o m c)
  where
    go : (b : Option ℕ) → level_by buy os b ≡ None → NoWorse buy o.price b → ⊥
    go None f h = h
    go (Some p) f h = cc

-- ---- a live order has its shares at its own price and side
same_side : (side : Bool) → beq side side ≡ true
same_side true = refl
same_side false = refl

pub shares_own : (o : Order) → o.live ≡ true → shares_at o.buy o.price o ≡ o.volume
unfolding shares_at
shares_own o l = rw (l, same_side o.buy, eq-eqb o.price o.price refl)

-- ---- one order more at the best price raises the size by its volume
module _ (buy : Bool) (os : List Order) (n p v : ℕ) where
  abbrev o : Order
  o = order_of n buy p v

  best_again : best_of buy os ≡ Some p → best_step buy o (best_of buy os) ≡ Some p
  unfolding best_step
  best_again e = rw (same_side buy, e) (ap Some (go buy))
    where
      go : (side : Bool) → cond side (max p p) (min p p) ≡ p
      go true = omega arith
      go false = omega arith

  pub add_level : (m : ℕ) → level_of buy os ≡ level_at p m → level_of buy (insert order_number o os) ≡ level_at p (m + v)
  unfolding level_of
  add_level m e =
      let sh = shows buy os p m e in
      let best : best_of buy (insert order_number o os) ≡ Some p = fold_insert (best_step buy) no_best order_number (best_comm buy) o os ∙ best_again sh.best in
      let sum : sum_by (shares_at buy p) (insert order_number o os) ≡ m + v = sum_insert order_number (shares_at buy p) o os ∙ (rw (shares_own o refl, sh.size) (omega arith)) in
      rw (best, sum)

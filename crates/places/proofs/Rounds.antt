-- Going round from a home every place is met; so what a search passed, and how far a span reaches, is known of every place.
use mathlib.Core.Bool.{Bool, true, false, cond, true≢false}
use mathlib.Core.Logic.{◌⊎◌, inl, inr}
use mathlib.Core.Path.{◌≡◌, refl, sym, ◌∙◌}
use Prim.Native.Nat.{ℕ, zero, suc, ◌+◌, ◌-◌, ◌*◌, ◌<◌, ◌≤◌}
use native.Mathlib.Nat.{not-suc-le-zero, mul-le-mul_right}
use native.Mathlib.Omega.{arith}
use borrow.Author.Tests.{lt-ltb, le-ltb, leb-true, leb-false, ltb-true, ltb-false, eqb-true, eqb-false, eq-eqb, ne_eqb}
use lib.Dec.{leb, ltb, eqb}
use Rattle.places.specs.Homes.{half, spread, home_of, round_from, away_from, first_round, last_round, outside}

-- ---- homes
spread_bits : (number : ℕ) → spread number ≤ half - 1
spread_bits number = omega arith

pub spread_times : (n number : ℕ) → spread number * n ≤ (half - 1) * n
spread_times n number = mul-le-mul_right n (spread_bits number)

pub home_within : (n number : ℕ) → 0 < n → home_of n number < n
unfolding home_of
home_within n number pos = let h = spread_times n number in omega (arith, h, pos)

-- ---- a shelf
pub record Inside (from n long : ℕ) : Type 0 where
  pub some : 0 < n
  pub fits : from + n ≤ long

pub inside : (from n long : ℕ) → outside from n long ≡ false → Inside from n long
unfolding outside
inside from n long = go (eqb n 0) refl
  where
    go : (t : Bool) → eqb n 0 ≡ t → cond (eqb n 0) true (ltb long (from + n)) ≡ false → Inside from n long
    go true e q = absurd (true≢false (rw e at q))
    go false e q = let ne = eqb-false n 0 e in record { some = omega (arith, ne); fits = ltb-false long (from + n) (rw e at q) }

pub not_outside : (from n long : ℕ) → 0 < n → from + n ≤ long → outside from n long ≡ false
unfolding outside
not_outside from n long pos fits = let ne : n ≡ 0 → ⊥ = (λ e. omega (arith, e, pos)) in rw (ne_eqb n 0 ne, le-ltb long (from + n) fits)

-- with no place, or beginning past the end
pub outside_of_none : (from n m long : ℕ) → m ≡ n → (m ≡ 0) ⊎ ((m ≡ 0 → ⊥) × (long < from)) → true ≡ outside from n long
unfolding outside
outside_of_none from n m long wide (inl e) = rw (eq-eqb n 0 (sym wide ∙ e))
outside_of_none from n m long wide (inr u) = rw (ne_eqb n 0 (rw wide at u.0), lt-ltb long (from + n) (let h = u.1 in omega (arith, h)))

pub by_rest : (from n long : ℕ) → from ≤ long → ltb (long - from) n ≡ ltb long (from + n)
by_rest from n long h = go (ltb long (from + n)) refl
  where
    go : (t : Bool) → ltb long (from + n) ≡ t → ltb (long - from) n ≡ ltb long (from + n)
    go true e = let l = ltb-true long (from + n) e in rw e (lt-ltb (long - from) n (omega (arith, l, h)))
    go false e = let l = ltb-false long (from + n) e in rw e (le-ltb (long - from) n (omega (arith, l, h)))

-- ---- the way round
module _ (n h : ℕ) (home : h < n) where
  round_within : (j : ℕ) → j < n → round_from n h j < n
  unfolding round_from
  round_within j g = go (ltb (h + j) n) refl
    where
      go : (t : Bool) → ltb (h + j) n ≡ t → cond (ltb (h + j) n) (h + j) (h + j - n) < n
      go true e = rw e (ltb-true (h + j) n e)
      go false e = let l = ltb-false (h + j) n e in rw e (omega (arith, l, home, g))

  pub away_within : (i : ℕ) → i < n → away_from n h i < n
  unfolding away_from
  away_within i g = go (leb h i) refl
    where
      go : (t : Bool) → leb h i ≡ t → cond (leb h i) (i - h) (i + n - h) < n
      go true e = rw e (omega (arith, g))
      go false e = let l = leb-false h i e in rw e (omega (arith, l, home))

  pub round_away : (i : ℕ) → i < n → round_from n h (away_from n h i) ≡ i
  unfolding away_from round_from
  round_away i g = go (leb h i) refl
    where
      go : (t : Bool) → leb h i ≡ t → round_from n h (cond (leb h i) (i - h) (i + n - h)) ≡ i
      go true e =
          let l = leb-true h i e in
          let z : h + (i - h) ≡ i = omega (arith, l) in
          rw (e, z, lt-ltb i n g)
      go false e =
          let l = leb-false h i e in
          let z : h + (i + n - h) ≡ i + n = omega (arith, home) in
          let y : n ≤ i + n = omega arith in
          rw (e, z, le-ltb (i + n) n y) (omega arith)

pub outside_by_rest : (from n m long : ℕ) → m ≡ n → (m ≡ 0 → ⊥) → from ≤ long → ltb (long - from) m ≡ outside from n long
unfolding outside
outside_by_rest from n m long wide some h = rw (wide, ne_eqb n 0 (rw wide at some), by_rest from n long h)

-- ---- a search of the first `top` places round
module _ (n h top : ℕ) (p : ℕ → Bool) where
  -- what is left to a search that has passed j places is what it looks for
  abbrev pub Leaves : ℕ → Type 0
  Leaves j = first_round n h (top - j) j p ≡ first_round n h top 0 p

  pub leaves_all : Leaves 0
  leaves_all = let e : top - 0 ≡ top = omega arith in rw e

  one_left : (j : ℕ) → j < top → top - j ≡ suc (top - (j + 1))
  one_left j g = omega (arith, g)

  pub leaves_here : (j : ℕ) → j < top → p (round_from n h j) ≡ true → Leaves j → round_from n h j ≡ first_round n h top 0 p
  unfolding first_round
  leaves_here j g e l = (rw (one_left j g, e) at l)

  pub leaves_more : (j : ℕ) → j < top → p (round_from n h j) ≡ false → Leaves j → Leaves (j + 1)
  unfolding first_round
  leaves_more j g e l = (rw (one_left j g, e) at l)

  pub leaves_none : (j : ℕ) → top ≤ j → Leaves j → n ≡ first_round n h top 0 p
  unfolding first_round
  leaves_none j g l = let e : top - j ≡ 0 = omega (arith, g) in (rw e at l)

-- what it hands back
module _ (n h : ℕ) (p : ℕ → Bool) where
  pub first_there : (m j : ℕ) → first_round n h m j p < n → p (first_round n h m j p) ≡ true
  unfolding first_round
  first_there zero j g = absurd (omega (arith, g))
  first_there (suc m) j g = go (first_there m (j + 1)) (p (round_from n h j)) refl
    where
      go : (first_round n h m (j + 1) p < n → p (first_round n h m (j + 1) p) ≡ true) → (t : Bool) → p (round_from n h j) ≡ t
          → p (cond (p (round_from n h j)) (round_from n h j) (first_round n h m (j + 1) p)) ≡ true
      go ih true e = rw e e
      go ih false e = rw e (ih (rw e at g))

  module _ (home : h < n) where
    pub first_nowhere : (m j : ℕ) → j + m ≤ n → n ≤ first_round n h m j p → (t : ℕ) → j ≤ t → t < j + m → p (round_from n h t) ≡ false
    unfolding first_round
    first_nowhere zero j room g t a b = absurd (omega (arith, a, b))
    first_nowhere (suc m) j room g t a b = go (first_nowhere m (j + 1) (omega (arith, room))) (p (round_from n h j)) refl (eqb t j) refl
      where
        go : (n ≤ first_round n h m (j + 1) p → (t : ℕ) → j + 1 ≤ t → t < j + 1 + m → p (round_from n h t) ≡ false) → (s : Bool) → p (round_from n h j) ≡ s → (u : Bool) → eqb t j ≡ u → p (round_from n h t) ≡ false
        go ih true e u q = let z = round_within n h home j (omega (arith, room)) in absurd (omega (arith, z, (rw e at g)))
        go ih false e true q = rw (eqb-true t j q) e
        go ih false e false q = let ne = eqb-false t j q in ih (rw e at g) t (omega (arith, a, ne)) (omega (arith, b))

-- ---- a search from the last of `top` places round down
module _ (n h top : ℕ) (p : ℕ → Bool) where
  abbrev pub Remains : ℕ → Type 0
  Remains j = last_round n h j p ≡ last_round n h top p

  one_less : (j : ℕ) → 0 < j → last_round n h j p ≡ cond (p (round_from n h (j - 1))) j (last_round n h (j - 1) p)
  unfolding last_round
  one_less zero g = absurd (omega (arith, g))
  one_less (suc j) g = let e : suc j - 1 ≡ j = omega arith in rw e

  pub remains_here : (j : ℕ) → 0 < j → p (round_from n h (j - 1)) ≡ true → Remains j → j ≡ last_round n h top p
  remains_here j g e l = (rw (one_less j g, e) at l)

  pub remains_less : (j : ℕ) → 0 < j → p (round_from n h (j - 1)) ≡ false → Remains j → Remains (j - 1)
  remains_less j g e l = (rw (one_less j g, e) at l)

  pub remains_none : Remains 0 → 0 ≡ last_round n h top p
  unfolding last_round
  remains_none l = l

-- beyond what it hands back none passes
pub last_beyond : (n h : ℕ) (p : ℕ → Bool) (m t : ℕ) → last_round n h m p ≤ t → t < m → p (round_from n h t) ≡ false
unfolding last_round
last_beyond n h p zero t a b = absurd (not-suc-le-zero b)
last_beyond n h p (suc m) t a b = go (last_beyond n h p m t) (p (round_from n h m)) refl (eqb t m) refl
  where
    go : (last_round n h m p ≤ t → t < m → p (round_from n h t) ≡ false) → (s : Bool) → p (round_from n h m) ≡ s → (u : Bool) → eqb t m ≡ u → p (round_from n h t) ≡ false
    go ih true e u q = absurd (omega (arith, b, (rw e at a)))
    go ih false e true q = rw (eqb-true t m q) e
    go ih false e false q = let ne = eqb-false t m q in ih (rw e at a) (omega (arith, b, ne))

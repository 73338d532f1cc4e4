-- Demand 3 by phases: what the two readers keep of a symbol is the same while they agree; after a loss the second keeps what the first kept before it, with a lower
-- expected number, so that the next number is above it; and then it is stale.
use Prim.Native.Nat.{ℕ, ◌<◌}
use native.Mathlib.Omega.{arith}
use mathlib.Core.Bool.{Bool, true, false, cond}
use mathlib.Core.Logic.{◌↔◌}
use mathlib.Core.Option.{Option, none, some, IsSome}
use mathlib.Core.Path.{◌≡◌, refl, sym, ◌∙◌}
use lib.Dec.{eqb}
use borrow.Author.Tests.{eqb-true, eqb-false}
use Rattle.feed.specs.Reader.{Act, clearing, numbered, index_of, Rules, Kept, meets, answer_of, after_of, showing_of, New, unregistered, registered, Reader}
use Rattle.feed.specs.Feed.{heard, lost, Feed, start, ◌▷◌, Phase, agrees, behind, refuses, after_hearing, after_losing, moves, phase, ClearsHeard, first, second, Accepted, Given}
use Rattle.feed.specs.Demand3.{answered, Quotes}
use Rattle.feed.proofs.Meets.{done, above, still_stale, own_at, says_at}

-- The invariant, of a symbol's phase and of what the first reader and the second keep of it; `was g` is what the first kept at the moment g
data Holds {E O : Type 0} (was : Feed E → Option (Kept O)) : Phase E → Option (Kept O) → Option (Kept O) → Type 0 where
  same : {a : Option (Kept O)} → Holds was agrees a a
  older : {g : Feed E} {k l : Kept O} → was g ≡ some l → l.stale ≡ false → l.expected < k.expected → Holds was (behind g) (some k) (some l)
  gone : {a : Option (Kept O)} {l : Kept O} → l.stale ≡ true → Holds was refuses a (some l)

module _ (R : Rules) {was : Feed R.Effect → Option (Kept R.Orders)} where
  -- a message of the symbol that the first reader applies, and the second hears: what it answers, and what is kept after it
  heard_holds : {p : Phase R.Effect} {a b : Option (Kept R.Orders)} (m : Act R.Effect) → Holds was p a b → answer_of R a m ≡ 0 →
      (answer_of R b m ≡ answered p m) × Holds was (after_hearing p m) (after_of R a m) (after_of R b m)
  unfolding after_hearing answered answer_of after_of meets
  heard_holds (clearing index next) same h = (h, same)
  heard_holds (clearing index next) (older w live lower) h = (refl, same)
  heard_holds (clearing index next) (gone {a = none} st) h = absurd (omega arith)
  heard_holds (clearing index next) (gone {a = some k} st) h = (refl, same)
  heard_holds (numbered index number effect) same h = (h, same)
  heard_holds (numbered index number effect) (older {k = k} {l = l} w live lower) h =
      let t = above R l index number effect live (omega (arith, (done R k index number effect h).in_turn)) in
      (t.0, gone t.1)
  heard_holds (numbered index number effect) (gone {l = l} st) h =
      let t = still_stale R l index number effect st in
      (t.0, gone t.1)

  -- a numbered message of the symbol that the first reader applies, and the second loses
  lost_holds : {p : Phase R.Effect} {a b : Option (Kept R.Orders)} (f : Feed R.Effect) (index number : ℕ) (effect : R.Effect) → was f ≡ a → Holds was p a b →
      answer_of R a (numbered index number effect) ≡ 0 → Holds was (after_losing p f) (after_of R a (numbered index number effect)) b
  unfolding after_losing answer_of after_of
  lost_holds f index number effect w (same {a = none}) h = absurd (omega arith)
  lost_holds f index number effect w (same {a = some k}) h =
      let d = done R k index number effect h in
      older {k = (meets R k (numbered index number effect)).after} w d.live (omega (arith, d.raised))
  lost_holds f index number effect w (older {k = k} v live lower) h =
      older {k = (meets R k (numbered index number effect)).after} v live (omega (arith, (done R k index number effect h).raised))
  lost_holds f index number effect w (gone st) h = gone st

module _ (R : Rules) (D : Reader R) (s₀ t₀ : D.State) (i : ℕ) where
  abbrev Held : Phase R.Effect → (s t : D.State) → Type 0
  Held p s t = Holds (λ g. D.kept (first R D s₀ g) i) p (D.kept s i) (D.kept t i)

  -- a message of any symbol
  heard_held : {p : Phase R.Effect} (s t : D.State) (m : Act R.Effect) (own : Bool) → eqb i (index_of m) ≡ own → Held p s t → D.answer s m ≡ 0 →
      Held (cond own (after_hearing p m) p) (D.step s m) (D.step t m)
  heard_held s t m true q h a =
      let e = eqb-true i (index_of m) q in
      rw (own_at R D s m i e, own_at R D t m i e) (heard_holds R m h (sym (says_at R D s m i e) ∙ a)).1
  heard_held s t m false q h a = let ne = eqb-false i (index_of m) q in rw (D.other s m i ne, D.other t m i ne) h

  lost_held : {p : Phase R.Effect} (f : Feed R.Effect) (t : D.State) (index number : ℕ) (effect : R.Effect) (own : Bool) → eqb i index ≡ own →
      Held p (first R D s₀ f) t → D.answer (first R D s₀ f) (numbered index number effect) ≡ 0 → Held (cond own (after_losing p f) p) (D.step (first R D s₀ f) (numbered index number effect)) t
  lost_held f t index number effect true q h a =
      let e = eqb-true i index q in
      rw (own_at R D (first R D s₀ f) (numbered index number effect) i e)
      (lost_holds R f index number effect refl h (sym (says_at R D (first R D s₀ f) (numbered index number effect) i e) ∙ a))
  lost_held f t index number effect false q h a = rw (D.other (first R D s₀ f) (numbered index number effect) i (eqb-false i index q)) h

  held : (f : Feed R.Effect) → D.kept s₀ i ≡ D.kept t₀ i → Accepted R D s₀ f → ClearsHeard f → Held (phase i f) (first R D s₀ f) (second R D t₀ f)
  unfolding phase moves first second Accepted ClearsHeard
  held start e a c = rw e same
  held (f ▷ heard m) e a c = heard_held (first R D s₀ f) (second R D t₀ f) m (eqb i (index_of m)) refl (held f e a.0 c) a.1
  held (f ▷ lost (clearing index next)) e a c = absurd c
  held (f ▷ lost (numbered index number effect)) e a c = lost_held f (second R D t₀ f) index number effect (eqb i index) refl (held f e a.0 c) a.1

  quotes_held : {p : Phase R.Effect} {a b : Option (Kept R.Orders)} (f : Feed R.Effect) → Holds (λ g. D.kept (first R D s₀ g) i) p a b →
      D.kept (first R D s₀ f) i ≡ a → D.kept (second R D t₀ f) i ≡ b → Quotes R D s₀ t₀ i f p
  unfolding Quotes showing_of
  quotes_held f same x y = rw (x, y)
  quotes_held f (older w live lower) x y = rw (w, y)
  quotes_held f (gone st) x y = rw (y, st)

-- two new readers that have the same symbols keep the same of each
same_kept : (R : Rules) {a b : Option (Kept R.Orders)} → New R a → New R b → IsSome a ↔ IsSome b → a ≡ b
same_kept R unregistered unregistered e = refl
same_kept R unregistered registered e = absurd (e.1 tt)
same_kept R registered unregistered e = absurd (e.0 tt)
same_kept R registered registered e = refl

module _ (R : Rules) (D : Reader R) (s₀ t₀ : D.State) where
  same_given : {f : Feed R.Effect} → Given R D s₀ t₀ f → (i : ℕ) → D.kept s₀ i ≡ D.kept t₀ i
  same_given g i = same_kept R (g.first_new i) (g.second_new i) (g.same_symbols i)

  pub by_phase : (i : ℕ) {f : Feed R.Effect} → Given R D s₀ t₀ f → Quotes R D s₀ t₀ i f (phase i f)
  by_phase i {f = f} g = quotes_held R D s₀ t₀ i f (held R D s₀ t₀ i f (same_given g i) g.accepted g.clears_heard) refl refl

  pub answers : {f : Feed R.Effect} {m : Act R.Effect} → Given R D s₀ t₀ (f ▷ heard m) → D.answer (second R D t₀ f) m ≡ answered (phase (index_of m) f) m
  unfolding Accepted ClearsHeard
  answers {f = f} {m = m} g =
      D.says (second R D t₀ f) m
      ∙ (heard_holds R m (held R D s₀ t₀ (index_of m) f (same_given g (index_of m)) g.accepted.0 g.clears_heard) (sym (D.says (first R D s₀ f) m) ∙ g.accepted.1)).0

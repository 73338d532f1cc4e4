-- The words of document 00 and the phases say the same: each message moves the phase as it moves the words, and the items that a word allows leave its phase alone.
use Prim.Native.Nat.{ℕ}
use mathlib.Core.Bool.{Bool, true, false, cond}
use mathlib.Core.Path.{◌≡◌, refl, ◌∙◌, ap}
use lib.Dec.{eqb}
use borrow.Author.Tests.{eqb-true, eqb-false, eq-eqb}
use Rattle.feed.specs.Reader.{Act, clearing, numbered, index_of}
use Rattle.feed.specs.Feed.{Item, heard, lost, Feed, start, ◌▷◌, Phase, agrees, behind, refuses, after_hearing, after_losing, moves, phase}
use Rattle.feed.specs.Demand3.{Since, here, more, CountsFrom, at_start, at_clear, NotLost, NotHeard, NotCleared, NoneLost, AfterLoss, UntilClear, Stands, none_lost, after_loss, until_clear}

module _ {E : Type 0} (i : ℕ) where
  -- an item leaves the phase alone if it does where it is the symbol's
  stays : {p q : Phase E} (own : Bool) → (own ≡ true → p ≡ q) → cond own p q ≡ q
  stays true h = h refl
  stays false h = refl

  -- the items that leave a phase alone
  unfoldable Allows : Phase E → Item E → Type 0
  Allows agrees = NotLost i
  Allows (behind h) = NotHeard i
  Allows refuses = NotCleared i

  allowed_stays : (p : Phase E) (f : Feed E) (it : Item E) → Allows p it → moves i p f it ≡ p
  unfolding moves after_hearing after_losing Allows NotLost NotHeard NotCleared
  allowed_stays agrees f (heard (clearing index next)) x = stays (eqb i index) (λ own. refl)
  allowed_stays agrees f (heard (numbered index number effect)) x = stays (eqb i index) (λ own. refl)
  allowed_stays agrees f (lost m) x = stays (eqb i (index_of m)) (λ own. absurd (x (eqb-true i (index_of m) own)))
  allowed_stays (behind h) f (heard m) x = stays (eqb i (index_of m)) (λ own. absurd (x (eqb-true i (index_of m) own)))
  allowed_stays (behind h) f (lost m) x = stays (eqb i (index_of m)) (λ own. refl)
  allowed_stays refuses f (heard (clearing index next)) x = stays (eqb i index) (λ own. absurd (x (eqb-true i index own)))
  allowed_stays refuses f (heard (numbered index number effect)) x = stays (eqb i index) (λ own. refl)
  allowed_stays refuses f (lost m) x = stays (eqb i (index_of m)) (λ own. refl)

  stays_since : (p : Phase E) {g f : Feed E} → Since (Allows p) g f → phase i g ≡ p → phase i f ≡ p
  unfolding phase
  stays_since p here e = e
  stays_since p (more {f = f} {it = it} r x) e = ap (λ (q : Phase E). moves i q f it) (stays_since p r e) ∙ allowed_stays p f it x

  counts_agrees : {g : Feed E} → CountsFrom i g → phase i g ≡ agrees
  unfolding phase moves after_hearing
  counts_agrees at_start = refl
  counts_agrees at_clear = rw (eq-eqb i i refl)

  none_lost_agrees : {f : Feed E} → NoneLost i f → phase i f ≡ agrees
  unfolding Allows
  none_lost_agrees n = stays_since agrees n.since (counts_agrees n.counts)

  at_loss : (h : Feed E) (m : Act E) → i ≡ index_of m → phase i h ≡ agrees → phase i (h ▷ lost m) ≡ behind h
  unfolding phase moves after_losing
  at_loss h m own e = rw (eq-eqb i (index_of m) own, e)

  after_loss_behind : {h f : Feed E} → AfterLoss i h f → phase i f ≡ behind h
  unfolding Allows
  after_loss_behind {h = h} a = stays_since (behind h) a.since (at_loss h a.message a.own (none_lost_agrees a.none_before))

  at_next : (h k : Feed E) (number : ℕ) (effect : E) → phase i k ≡ behind h → phase i (k ▷ heard (numbered i number effect)) ≡ refuses
  unfolding phase moves after_hearing
  at_next h k number effect e = rw (eq-eqb i i refl, e)

  until_clear_refuses : {f : Feed E} → UntilClear i f → phase i f ≡ refuses
  unfolding Allows
  until_clear_refuses u =
      stays_since refuses u.since (at_next u.before_loss u.before_next u.number u.effect (after_loss_behind u.loss))

  -- a symbol stands in its phase and in no other
  pub stands_only : {f : Feed E} {p : Phase E} → Stands i f p → phase i f ≡ p
  stands_only (none_lost n) = none_lost_agrees n
  stands_only (after_loss a) = after_loss_behind a
  stands_only (until_clear u) = until_clear_refuses u

  -- an item that leaves the phase alone leaves the words alone
  stands_on : {f : Feed E} {p : Phase E} (it : Item E) → Stands i f p → Allows p it → Stands i (f ▷ it) p
  unfolding Allows
  stands_on it (none_lost n) x = none_lost (record { from = n.from; counts = n.counts; since = more n.since x })
  stands_on it (after_loss a) x = after_loss (record { none_before = a.none_before; message = a.message; own = a.own; since = more a.since x })
  stands_on it (until_clear u) x =
      until_clear (record { before_loss = u.before_loss; before_next = u.before_next; loss = u.loss; number = u.number; effect = u.effect; since = more u.since x })

  -- what is another symbol's does so
  other_heard : (p : Phase E) (m : Act E) → (i ≡ index_of m → ⊥) → Allows p (heard m)
  unfolding Allows NotLost NotHeard NotCleared
  other_heard agrees m ne = tt
  other_heard (behind h) m ne = ne
  other_heard refuses (clearing index next) ne = ne
  other_heard refuses (numbered index number effect) ne = tt

  other_lost : (p : Phase E) (m : Act E) → (i ≡ index_of m → ⊥) → Allows p (lost m)
  unfolding Allows NotLost NotHeard NotCleared
  other_lost agrees m ne = ne
  other_lost (behind h) m ne = tt
  other_lost refuses m ne = tt

  stands_heard : {f : Feed E} {p : Phase E} (m : Act E) → i ≡ index_of m → Stands i f p → Stands i (f ▷ heard m) (after_hearing p m)
  unfolding after_hearing Allows NotLost NotCleared
  stands_heard {f = f} (clearing index next) e x = rw (← e) (none_lost (record { from = f ▷ heard (clearing i next); counts = at_clear; since = here }))
  stands_heard (numbered index number effect) e (none_lost n) = stands_on (heard (numbered index number effect)) (none_lost n) tt
  stands_heard {f = f} (numbered index number effect) e (after_loss {h = h} a) =
      rw (← e) (until_clear (record { before_loss = h; before_next = f; loss = a; number = number; effect = effect; since = here }))
  stands_heard (numbered index number effect) e (until_clear u) = stands_on (heard (numbered index number effect)) (until_clear u) tt

  stands_lost : {f : Feed E} {p : Phase E} (m : Act E) → i ≡ index_of m → Stands i f p → Stands i (f ▷ lost m) (after_losing p f)
  unfolding after_losing Allows NotHeard NotCleared
  stands_lost m e (none_lost n) = after_loss (record { none_before = n; message = m; own = e; since = here })
  stands_lost m e (after_loss a) = stands_on (lost m) (after_loss a) tt
  stands_lost m e (until_clear u) = stands_on (lost m) (until_clear u) tt

  stands_cond : {p q : Phase E} {f : Feed E} (own : Bool) → (own ≡ true → Stands i f p) → (own ≡ false → Stands i f q) → Stands i f (cond own p q)
  stands_cond true x y = x refl
  stands_cond false x y = y refl

  -- and there is no moment besides
  pub every_moment : (f : Feed E) → Stands i f (phase i f)
  unfolding phase moves
  every_moment start = none_lost (record { from = start; counts = at_start; since = here })
  every_moment (f ▷ heard m) =
      stands_cond (eqb i (index_of m)) (λ q. stands_heard m (eqb-true i (index_of m) q) (every_moment f))
      (λ q. stands_on (heard m) (every_moment f) (other_heard (phase i f) m (eqb-false i (index_of m) q)))
  every_moment (f ▷ lost m) =
      stands_cond (eqb i (index_of m)) (λ q. stands_lost m (eqb-true i (index_of m) q) (every_moment f))
      (λ q. stands_on (lost m) (every_moment f) (other_lost (phase i f) m (eqb-false i (index_of m) q)))

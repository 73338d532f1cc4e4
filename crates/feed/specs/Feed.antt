-- A feed with its losses, the two readers of it, and what demand 3 takes as given.
use Rattle.std.specs.Prelude.{ℕ, cond, ◌↔◌, ◌≡◌, eqb}
use Rattle.feed.specs.Reader.{Rules, Act, clearing, numbered, index_of, New, Reader, Registered}

-- A message of the feed: the second reader hears it, or it is lost on the way to it. The first reader receives it either way.
pub data Item (E : Type 0) : Type 0 where
  heard : Act E → Item E
  lost : Act E → Item E

-- A feed up to a moment, the last message outermost. So every feed is a moment, and what stands inside it are the earlier ones.
infixl 50 ◌▷◌
pub data Feed (E : Type 0) : Type 0 where
  start : Feed E
  ◌▷◌ : Feed E → Item E → Feed E

-- What the second reader has of a symbol. It agrees: it has all since the last clear or the start. It is behind: it has all up to the moment named, the
-- symbol's next message was lost, and nothing of the symbol was heard since. It refuses: it heard a numbered message after a loss, and no clear since.
pub data Phase (E : Type 0) : Type 0 where
  agrees : Phase E
  behind : Feed E → Phase E
  refuses : Phase E

module _ {E : Type 0} where
  -- a message of the symbol is heard
  unfoldable pub after_hearing : Phase E → Act E → Phase E
  after_hearing p (clearing index next) = agrees
  after_hearing agrees (numbered index number effect) = agrees
  after_hearing (behind g) (numbered index number effect) = refuses
  after_hearing refuses (numbered index number effect) = refuses

  -- a message of the symbol is lost just after the moment f
  unfoldable pub after_losing : Phase E → Feed E → Phase E
  after_losing agrees f = behind f
  after_losing (behind g) f = behind g
  after_losing refuses f = refuses

  -- a message moves the phase of its own symbol alone: other symbols' losses do not matter
  unfoldable pub moves : ℕ → Phase E → Feed E → Item E → Phase E
  moves i p f (heard m) = cond (eqb i (index_of m)) (after_hearing p m) p
  moves i p f (lost m) = cond (eqb i (index_of m)) (after_losing p f) p

  unfoldable pub phase : ℕ → Feed E → Phase E
  phase i start = agrees
  phase i (f ▷ it) = moves i (phase i f) f it

  -- Every symbol clear is delivered: what is lost is numbered
  unfoldable pub ClearsHeard : Feed E → Type 0
  ClearsHeard start = Unit {0}
  ClearsHeard (f ▷ heard m) = ClearsHeard f
  ClearsHeard (f ▷ lost (clearing index next)) = ⊥
  ClearsHeard (f ▷ lost (numbered index number effect)) = ClearsHeard f

module _ (R : Rules) (D : Reader R) where
  -- the first reader, which receives all of the feed
  unfoldable pub first : D.State → Feed R.Effect → D.State
  first s₀ start = s₀
  first s₀ (f ▷ heard m) = D.step (first s₀ f) m
  first s₀ (f ▷ lost m) = D.step (first s₀ f) m

  -- the second one, which receives all but what is lost
  unfoldable pub second : D.State → Feed R.Effect → D.State
  second t₀ start = t₀
  second t₀ (f ▷ heard m) = D.step (second t₀ f) m
  second t₀ (f ▷ lost m) = second t₀ f

  -- the first reader applies the feed without one refusal
  unfoldable pub Accepted : D.State → Feed R.Effect → Type 0
  Accepted s₀ start = Unit {0}
  Accepted s₀ (f ▷ heard m) = Accepted s₀ f × (D.answer (first s₀ f) m ≡ 0)
  Accepted s₀ (f ▷ lost m) = Accepted s₀ f × (D.answer (first s₀ f) m ≡ 0)

  -- What demand 3 takes as given: two readers, new and with the same symbols registered, each in an order of its own; a feed that the first of them accepts, and
  -- of which the second may lose what is numbered
  pub record Given (s₀ t₀ : D.State) (f : Feed R.Effect) : Type 0 where
    pub first_new : (i : ℕ) → New R (D.kept s₀ i)
    pub second_new : (i : ℕ) → New R (D.kept t₀ i)
    pub same_symbols : (i : ℕ) → Registered R D s₀ i ↔ Registered R D t₀ i
    pub accepted : Accepted s₀ f
    pub clears_heard : ClearsHeard f

-- The numbers that a call can answer with are those of the clauses of its rule.
use mathlib.Core.Bool.{Bool, true, false}
use mathlib.Core.List.{List, [], ◌∷◌}
use mathlib.Core.Logic.{◌≢◌}
use mathlib.Core.Option.{Option, none, some, map}
use mathlib.Core.Path.{◌≡◌, refl}
use Prim.Native.Nat.{ℕ}
use native.Mathlib.Omega.{arith}
use lib.Dec.{ltb}
use lib.ListN.{take}
use Rattle.feed.specs.Reader.{Fit, fits, misfit, no_room, ruled, Act, clearing, numbered, index_of}
use Rattle.wire.specs.Outcome.{Outcome, done, refused, number_of}
use Rattle.wire.specs.Reading.{Read, reach_of, read_of}
use Rattle.wire.specs.declared.Message.{Message}
use Rattle.wire.proofs.Refusing.{reached_refused}
use Rattle.places.specs.Places.{among}
use Rattle.orders.specs.Rules.{apply_to}
use Rattle.orders.specs.declared.Order.{Order}
use Rattle.record.specs.declared.Deal.{Deal}
use Rattle.book.specs.State.{Symbol, View, entry_of, place_in, symbol_in}
use Rattle.symbols.specs.Registering.{told_of}
use Rattle.book.specs.Registering.{told_number, told_in}
use Rattle.book.specs.Step.{change_of, deal_of, enacted, meeting, act_at, act_on, meant, step_on, step_of, step_in}
use Rattle.book.specs.Quote.{no_quote, quoted_if, quoted, quote_of, volume_in, volume_of}
use Rattle.book.specs.declared.acts.Effect.{Effect}

-- ---- a message that was read: what holds of 0 and 5 to 10 holds of its answer
pub record Acts (P : ℕ → Type 0) : Type 0 where
  pub done : P 0
  pub symbol : P 5
  pub below : P 6
  pub above : P 7
  pub stale : P 8
  pub fit : P 9
  pub room : P 10

module _ (P : ℕ → Type 0) (each : Acts P) where
  ruled_answers : (s : Symbol) (stale below above : Bool) (x : Fit (List Order)) (d : Deal) → P (enacted s d (ruled stale below above x)).answer
  unfolding enacted ruled
  ruled_answers s true below above x d = each.stale
  ruled_answers s false true above x d = each.below
  ruled_answers s false false true x d = each.above
  ruled_answers s false false false misfit d = each.fit
  ruled_answers s false false false no_room d = each.room
  ruled_answers s false false false (fits os) d = each.done

  meeting_answers : (s : Symbol) (a : Act Effect) → P (meeting s a).answer
  unfolding meeting
  meeting_answers s (clearing index next) = each.done
  meeting_answers s (numbered index n e) = ruled_answers s s.entry.standing.stale (ltb n s.entry.standing.expected) (ltb s.entry.standing.expected n) (apply_to s.orders (change_of e)) (deal_of e)

  pub act_answers : (v : View) (a : Act Effect) → P (act_on v a).answer
  unfolding act_on
  act_answers v a = go (symbol_in (index_of a) v)
    where
      go : (x : Option Symbol) → P (act_at v (place_in (index_of a) v) x a).answer
      go none = each.symbol
      go (some s) = meeting_answers s a

-- one that is all there: what holds of 2, 3 and 4 too
pub record Each (P : ℕ → Type 0) : Type 0 where
  pub acts : Acts P
  pub size : P 2
  pub type : P 3
  pub field : P 4

pub step_answers : (P : ℕ → Type 0) → Each P → (v : View) (s : List ℕ) (n : ℕ) → reach_of s ≡ done n → P (step_in v (take n s)).answer
unfolding step_of
step_answers P each v s n e = go (read_of v.market (take n s)).outcome (reached_refused P each.size each.type each.field v.market s n e)
  where
    go : (x : Outcome Message) → ((k : ℕ) → x ≡ refused k → P k) → P (step_on v x).answer
    go (done m) h = act_answers P each.acts v (meant m)
    go (refused k) h = h k refl

-- a 4 is reading's
pub four_is_read : (v : View) (d : Read) → ((step_of v d).answer ≡ 4 → number_of d.outcome ≡ 4) × (number_of d.outcome ≡ 4 → (step_of v d).answer ≡ 4)
unfolding step_of
four_is_read v d = go d.outcome
  where
    go : (x : Outcome Message) → ((step_on v x).answer ≡ 4 → number_of x ≡ 4) × (number_of x ≡ 4 → (step_on v x).answer ≡ 4)
    go (done m) = (
      λ e. absurd (act_answers (λ (k : ℕ). k ≢ 4) (record { done = λ z. omega (arith, z); symbol = λ z. omega (arith, z); below = λ z. omega (arith, z); above = λ z. omega (arith, z); stale = λ z. omega (arith, z); fit = λ z. omega (arith, z); room = λ z. omega (arith, z) }) v (meant m) e),
      λ z. absurd (omega (arith, z)),
    )
    go (refused k) = ((λ e. e), (λ e. e))

-- ---- a quote: 0, 5 and 8; the day's volume: 0 and 5
pub quote_answers : (v : View) (index : ℕ) → among (quote_of index v).answer (0 ∷ 5 ∷ 8 ∷ []) ≡ true
unfolding quote_of among
quote_answers v index = go (symbol_in index v)
  where
    shown : (stale : Bool) (os : List Order) → among (quoted_if stale os).answer (0 ∷ 5 ∷ 8 ∷ []) ≡ true
    shown true os = refl
    shown false os = refl

    go : (x : Option Symbol) → among (quoted x).answer (0 ∷ 5 ∷ 8 ∷ []) ≡ true
    go none = refl
    go (some s) = shown s.entry.standing.stale s.orders

-- refused, it shows none on both sides
pub quote_refused : (v : View) (index : ℕ) → (quote_of index v).answer ≢ 0 → quote_of index v ≡ no_quote (quote_of index v).answer
unfolding quote_of
quote_refused v index = go (symbol_in index v)
  where
    shown : (stale : Bool) (os : List Order) → (quoted_if stale os).answer ≢ 0 → quoted_if stale os ≡ no_quote (quoted_if stale os).answer
    shown true os n = refl
    shown false os n = absurd (n refl)

    go : (x : Option Symbol) → (quoted x).answer ≢ 0 → quoted x ≡ no_quote (quoted x).answer
    go none n = refl
    go (some s) n = shown s.entry.standing.stale s.orders n

pub volume_answers : (v : View) (index : ℕ) → among (volume_of index v).answer (0 ∷ 5 ∷ []) ≡ true
unfolding volume_of among
volume_answers v index = go (symbol_in index v)
  where
    go : (x : Option Symbol) → among (volume_in x).answer (0 ∷ 5 ∷ []) ≡ true
    go none = refl
    go (some s) = refl

-- refused, it is 0 and not whole
pub volume_refused : (v : View) (index : ℕ) → (volume_of index v).answer ≢ 0 → volume_of index v ≡ volume_in none
unfolding volume_of
volume_refused v index = go (symbol_in index v)
  where
    go : (x : Option Symbol) → (volume_in x).answer ≢ 0 → volume_in x ≡ volume_in none
    go none n = refl
    go (some s) n = absurd (n refl)

-- ---- what is told of a symbol: 0 and 5
pub told_answers : (v : View) (index : ℕ) → among (told_number (told_in index v)) (0 ∷ 5 ∷ []) ≡ true
unfolding told_in told_of among
told_answers v index = go (symbol_in index v)
  where
    go : (x : Option Symbol) → among (told_number (told_of (map entry_of x))) (0 ∷ 5 ∷ []) ≡ true
    go none = refl
    go (some s) = refl

-- refused, nothing is told
pub told_refused : (v : View) (index : ℕ) → told_number (told_in index v) ≢ 0 → told_in index v ≡ told_of none
unfolding told_in told_of
told_refused v index = go (symbol_in index v)
  where
    go : (x : Option Symbol) → told_number (told_of (map entry_of x)) ≢ 0 → told_of (map entry_of x) ≡ told_of none
    go none n = refl
    go (some s) n = absurd (n refl)

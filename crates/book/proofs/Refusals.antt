-- What a refusal does to the view is read off the clauses of the rule.
use mathlib.Core.Bool.{Bool, true, false}
use mathlib.Core.List.{List}
use mathlib.Core.Option.{Option, none, some}
use mathlib.Core.Path.{◌≡◌, refl, sym, ap, ◌∙◌}
use Prim.Native.Nat.{ℕ}
use native.Mathlib.Omega.{arith}
use lib.Dec.{ltb}
use lib.ListN.{set}
use lib.Seq.{set-get_or}
use Rattle.feed.specs.Reader.{Fit, fits, misfit, no_room, ruled, Act, clearing, numbered, index_of}
use Rattle.wire.specs.Outcome.{Outcome, done, refused}
use Rattle.wire.specs.Reading.{Read}
use Rattle.wire.specs.declared.Message.{Message}
use Rattle.places.specs.Places.{among}
use Rattle.symbols.specs.State.{found_in}
use Rattle.book.specs.State.{Symbol, View, with_places, place_in, symbol_in}
use Rattle.orders.specs.Rules.{apply_to}
use Rattle.book.specs.Step.{change_of, deal_of, symbol_made_stale, enacted, meeting, act_at, act_on, meant, step_on, step_of}
use Rattle.book.specs.Promises.{unchanging, staling, BecomesStale}
use Rattle.orders.specs.declared.Order.{Order}
use Rattle.book.specs.declared.acts.Effect.{Effect}
use Rattle.record.specs.declared.Deal.{Deal}

never : {A : Type 0} → ◌≡◌ {A = Bool} false true → A
never e = absurd (let z : ◌≡◌ {A = ℕ} 0 1 = cc in omega arith)

-- ---- 1 to 6 and 8: the view is as it was
ruled_unchanged : (s : Symbol) (stale below above : Bool) (x : Fit (List Order)) (d : Deal) → unchanging (enacted s d (ruled stale below above x)).answer ≡ true → (enacted s d (ruled stale below above x)).symbol ≡ s
unfolding enacted ruled among
ruled_unchanged s true below above x d e = refl
ruled_unchanged s false true above x d e = refl
ruled_unchanged s false false true x d e = never e
ruled_unchanged s false false false misfit d e = never e
ruled_unchanged s false false false no_room d e = never e
ruled_unchanged s false false false (fits os) d e = never e

meeting_unchanged : (s : Symbol) (a : Act Effect) → unchanging (meeting s a).answer ≡ true → (meeting s a).symbol ≡ s
unfolding meeting among
meeting_unchanged s (clearing index next) e = never e
meeting_unchanged s (numbered index n f) e = ruled_unchanged s s.entry.standing.stale (ltb n s.entry.standing.expected) (ltb s.entry.standing.expected n) (apply_to s.orders (change_of f)) (deal_of f) e

pub act_unchanged : (v : View) (a : Act Effect) → unchanging (act_on v a).answer ≡ true → (act_on v a).view ≡ v
unfolding act_on found_in
act_unchanged v a = go (symbol_in (index_of a) v) refl
  where
    go : (x : Option Symbol) → symbol_in (index_of a) v ≡ x → unchanging (act_at v (place_in (index_of a) v) x a).answer ≡ true → (act_at v (place_in (index_of a) v) x a).view ≡ v
    go none q e = refl
    go (some s) q e = ap (with_places v) (ap (λ (t : Symbol). set v.places (place_in (index_of a) v) (some t)) (meeting_unchanged s a e) ∙ ap (set v.places (place_in (index_of a) v)) (sym q) ∙ set-get_or v.places (place_in (index_of a) v) none)

pub refused_view : (v : View) (d : Read) → unchanging (step_of v d).answer ≡ true → (step_of v d).view ≡ v
unfolding step_of
refused_view v d = go d.outcome
  where
    go : (x : Outcome Message) → unchanging (step_on v x).answer ≡ true → (step_on v x).view ≡ v
    go (done m) e = act_unchanged v (meant m) e
    go (refused a) e = refl

-- ---- 7, 9 and 10: the symbol becomes stale and its record loses the mark; nothing else changes
ruled_stale : (s : Symbol) (stale below above : Bool) (x : Fit (List Order)) (d : Deal) → staling (enacted s d (ruled stale below above x)).answer ≡ true → (enacted s d (ruled stale below above x)).symbol ≡ symbol_made_stale s
unfolding enacted ruled among
ruled_stale s true below above x d e = never e
ruled_stale s false true above x d e = never e
ruled_stale s false false true x d e = refl
ruled_stale s false false false misfit d e = refl
ruled_stale s false false false no_room d e = refl
ruled_stale s false false false (fits os) d e = never e

meeting_stale : (s : Symbol) (a : Act Effect) → staling (meeting s a).answer ≡ true → (meeting s a).symbol ≡ symbol_made_stale s
unfolding meeting among
meeting_stale s (clearing index next) e = never e
meeting_stale s (numbered index n f) e = ruled_stale s s.entry.standing.stale (ltb n s.entry.standing.expected) (ltb s.entry.standing.expected n) (apply_to s.orders (change_of f)) (deal_of f) e

pub stale_view : (v : View) (a : Act Effect) → staling (act_on v a).answer ≡ true → BecomesStale v (index_of a) (act_on v a).view
unfolding act_on among
stale_view v a = go (symbol_in (index_of a) v) refl
  where
    go : (x : Option Symbol) → symbol_in (index_of a) v ≡ x → staling (act_at v (place_in (index_of a) v) x a).answer ≡ true → BecomesStale v (index_of a) (act_at v (place_in (index_of a) v) x a).view
    go none q e = never e
    go (some s) q e = record { symbol = s; there = q; next_view = ap (λ (t : Symbol). with_places v (set v.places (place_in (index_of a) v) (some t))) (meeting_stale s a e) }

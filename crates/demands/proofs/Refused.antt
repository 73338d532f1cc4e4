-- Answers 1 to 5 change nothing, so what is refused that way acts as lost.
use Prim.Native.Nat.{ℕ, zero, suc, ◌≤◌}
use native.Mathlib.Omega.{arith}
use mathlib.Core.Bool.{true}
use mathlib.Core.List.{List, [], ◌∷◌, ◌++◌}
use mathlib.Core.Path.{◌≡◌, refl, sym, ap, ◌∙◌}
use Rattle.wire.specs.Reading.{read_of}
use Rattle.places.specs.Places.{among}
use Rattle.book.specs.State.{View}
use Rattle.book.specs.Promises.{unchanging}
use Rattle.book.specs.Step.{step_in}
use Rattle.book.specs.Walk.{steps_of, Moves}
use Rattle.book.specs.declared.Book.{Book}
use Rattle.book.specs.declared.walk.Moved.{Moved}
use Rattle.book.proofs.Refusals.{refused_view}
use Rattle.demands.specs.Demand3.{Counted, no_more, counts, acts_as_lost}
use Rattle.book.proofs.Walking.{steps_join}

one_to_five : (a : ℕ) → 1 ≤ a → a ≤ 5 → unchanging a ≡ true
unfolding among
one_to_five zero h k = absurd (omega (arith, h))
one_to_five (suc zero) h k = refl
one_to_five (suc (suc zero)) h k = refl
one_to_five (suc (suc (suc zero))) h k = refl
one_to_five (suc (suc (suc (suc zero)))) h k = refl
one_to_five (suc (suc (suc (suc (suc zero))))) h k = refl
one_to_five (suc (suc (suc (suc (suc (suc a)))))) h k = absurd (omega (arith, k))

-- the state is the one handed in, whatever it was
pub refused_changes_nothing : {b : Book} {s : List ℕ} {at : ℕ} {r : Moved} → Moves b s at r → 1 ≤ r.answer → r.answer ≤ 5 → r.book ≡ b
refused_changes_nothing {r = r} m least most = m.kept (one_to_five r.answer least most)

-- and a run over a stream with such a message leaves what a run without it does
pub refused_acts_as_lost : (v : View) (ms ns : List (List ℕ)) (m : List ℕ) → 1 ≤ (step_in (steps_of v ms) m).answer → (step_in (steps_of v ms) m).answer ≤ 5
    → steps_of v (ms ++ m ∷ ns) ≡ steps_of v (ms ++ ns)
unfolding steps_of
refused_acts_as_lost v ms ns m least most =
    steps_join v ms (m ∷ ns)
    ∙ ap (λ (w : View). steps_of w ns) (refused_view (steps_of v ms) (read_of (steps_of v ms).market m) (one_to_five (step_in (steps_of v ms) m).answer least most))
    ∙ sym (steps_join v ms ns)

-- so of a stream only what counts does something; and all may count
pub counted_steps : {v : View} {ms ns : List (List ℕ)} → Counted v ms ns → steps_of v ns ≡ steps_of v ms
unfolding steps_of
counted_steps no_more = refl
counted_steps (counts c) = counted_steps c
counted_steps (acts_as_lost {v = v} {ms = ms} {ns = ns} {m = m} least most c) = refused_acts_as_lost v [] ns m least most ∙ counted_steps c

pub all_count : (v : View) (ms : List (List ℕ)) → Counted v ms ms
all_count v [] = no_more
all_count v (m ∷ ms) = counts (all_count (step_in v m).view ms)

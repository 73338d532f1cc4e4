-- No message changes a name or a scale: what is told of a symbol is the same before and after.
use Rattle.std.specs.Prelude.{Some}
use mathlib.Core.Bool.{Bool, true, false}
use mathlib.Core.List.{List, [], ◌∷◌}
use mathlib.Core.Option.{Option, none, some, map}
use mathlib.Core.Path.{◌≡◌, refl, sym, ap, ◌∙◌}
use Prim.Native.Nat.{ℕ}
use borrow.Author.Tests.{eqb-true, eqb-false}
use lib.Dec.{eqb}
use Rattle.feed.specs.Reader.{Act, index_of}
use Rattle.wire.specs.Outcome.{Outcome, done, refused}
use Rattle.wire.specs.Reading.{Read, read_of}
use Rattle.wire.specs.declared.Message.{Message}
use Rattle.symbols.specs.Registering.{told_of}
use Rattle.book.specs.State.{Symbol, View, entry_of, symbol_in}
use Rattle.book.specs.Registering.{told_in}
use Rattle.book.specs.Step.{meeting, act_on, meant, step_on, step_of}
use Rattle.book.specs.Walk.{steps_of}
use Rattle.book.specs.declared.acts.Effect.{Effect}
use Rattle.book.proofs.Isolation.{SameName, meeting_keeps_name, unregistered_stays, own_symbol, own_symbol_only}

same_told : (s t : Symbol) → SameName s t → told_of (some (entry_of t)) ≡ told_of (some (entry_of s))
unfolding told_of
same_told s t n = λ j. Some (record { name = n.name j; len = n.len j; scale = n.scale j })

told_act : (i : ℕ) (v : View) (a : Act Effect) → told_in i (act_on v a).view ≡ told_in i v
unfolding told_in
told_act i v a = go (eqb i (index_of a)) refl
  where
    own : (x : Option Symbol) → symbol_in (index_of a) v ≡ x → told_of (map entry_of (symbol_in (index_of a) (act_on v a).view)) ≡ told_of (map entry_of (symbol_in (index_of a) v))
    own none e = ap (λ (w : View). told_of (map entry_of (symbol_in (index_of a) w))) (unregistered_stays v a e)
    own (some s) e =
        ap (λ (x : Option Symbol). told_of (map entry_of x)) (own_symbol v a s e)
        ∙ same_told s (meeting s a).symbol (meeting_keeps_name s a)
        ∙ sym (ap (λ (x : Option Symbol). told_of (map entry_of x)) e)

    go : (t : Bool) → eqb i (index_of a) ≡ t → told_of (map entry_of (symbol_in i (act_on v a).view)) ≡ told_of (map entry_of (symbol_in i v))
    go true e = rw (eqb-true i (index_of a) e) (own (symbol_in (index_of a) v) refl)
    go false e = ap (λ (x : Option Symbol). told_of (map entry_of x)) (own_symbol_only v a i (eqb-false i (index_of a) e))

pub told_step : (i : ℕ) (v : View) (d : Read) → told_in i (step_of v d).view ≡ told_in i v
unfolding step_of
told_step i v d = go d.outcome
  where
    go : (x : Outcome Message) → told_in i (step_on v x).view ≡ told_in i v
    go (done m) = told_act i v (meant m)
    go (refused a) = refl

pub told_steps : (i : ℕ) (v : View) (ms : List (List ℕ)) → told_in i (steps_of v ms) ≡ told_in i v
unfolding steps_of
told_steps i v [] = refl
told_steps i v (m ∷ ms) = told_steps i (step_of v (read_of v.market m)).view ms ∙ told_step i v (read_of v.market m)

-- No message changes the market: a view is only ever given other places.
use mathlib.Core.List.{List, [], ◌∷◌}
use mathlib.Core.Option.{Option, none, some}
use mathlib.Core.Path.{◌≡◌, refl, ◌∙◌}
use Prim.Native.Nat.{ℕ}
use Rattle.feed.specs.Reader.{Act, index_of}
use Rattle.wire.specs.Outcome.{Outcome, done, refused}
use Rattle.wire.specs.Reading.{Read, read_of}
use Rattle.wire.specs.declared.Message.{Message}
use Rattle.book.specs.State.{Symbol, View, place_in, symbol_in}
use Rattle.book.specs.Step.{act_at, act_on, meant, step_on, step_of, step_in}
use Rattle.book.specs.Walk.{steps_of}
use Rattle.book.specs.declared.acts.Effect.{Effect}

act_market : (v : View) (k : ℕ) (x : Option Symbol) (a : Act Effect) → (act_at v k x a).view.market ≡ v.market
act_market v k none a = refl
act_market v k (some s) a = refl

pub step_market : (v : View) (d : Read) → (step_of v d).view.market ≡ v.market
unfolding step_of act_on
step_market v d = go d.outcome
  where
    go : (x : Outcome Message) → (step_on v x).view.market ≡ v.market
    go (done m) = act_market v (place_in (index_of (meant m)) v) (symbol_in (index_of (meant m)) v) (meant m)
    go (refused a) = refl

pub steps_market : (v : View) (ms : List (List ℕ)) → (steps_of v ms).market ≡ v.market
unfolding steps_of
steps_market v [] = refl
steps_market v (m ∷ ms) = steps_market (step_in v m).view ms ∙ step_market v (read_of v.market m)

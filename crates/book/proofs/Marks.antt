-- A record that has lost its mark never gets it back: every rule keeps the mark or takes it away.
use mathlib.Core.Bool.{Bool, true, false, cond}
use mathlib.Core.List.{List, [], ◌∷◌}
use mathlib.Core.Option.{Option, none, some}
use mathlib.Core.Path.{◌≡◌, refl, ap, ◌∙◌}
use Prim.Native.Nat.{ℕ}
use borrow.Author.Tests.{eqb-true, eqb-false}
use lib.Dec.{eqb}
use lib.ListN.{take, drop}
use Rattle.feed.specs.Reader.{Ruling, unchanged, made_stale, applied, Act, clearing, numbered, index_of}
use Rattle.wire.specs.Outcome.{Outcome, done, refused}
use Rattle.wire.specs.Reading.{Read, reach_of, read_of}
use Rattle.wire.specs.declared.Message.{Message}
use Rattle.book.specs.State.{Symbol, View, view, symbol_in, Wf}
use Rattle.record.specs.Rules.{lost_by}
use Rattle.book.specs.Step.{deal_of, enacted, meeting, act_on, meant, step_on, step_of, step_in}
use Rattle.book.specs.Quote.{volume_in, volume_of}
use Rattle.book.specs.Walk.{move_by, move_of, walk_of, steps_of, run_of, Moves, Runs}
use Rattle.book.specs.declared.Book.{Book}
use Rattle.book.specs.declared.walk.Moved.{Moved}
use Rattle.book.specs.declared.walk.Ran.{Ran}
use Rattle.orders.specs.declared.Order.{Order}
use Rattle.book.specs.declared.acts.Effect.{Effect}
use Rattle.record.specs.declared.Deal.{Deal}
use Rattle.book.proofs.Isolation.{unregistered_stays, own_symbol, own_symbol_only}

still_lost : (b mark : Bool) → mark ≡ false → cond b false mark ≡ false
still_lost true mark e = refl
still_lost false mark e = e

kept_or_lost : (b mark : Bool) → mark ≡ false → cond b mark false ≡ false
kept_or_lost true mark e = e
kept_or_lost false mark e = refl

enacted_lost : (s : Symbol) (d : Deal) (r : Ruling (List Order)) → s.entry.standing.whole ≡ false → (enacted s d r).symbol.entry.standing.whole ≡ false
unfolding enacted
enacted_lost s d (unchanged a) e = e
enacted_lost s d (made_stale a) e = refl
enacted_lost s d (applied os) e = still_lost (lost_by s.kept d) s.entry.standing.whole e

pub mark_never_returns : (s : Symbol) (a : Act Effect) → s.entry.standing.whole ≡ false → (meeting s a).symbol.entry.standing.whole ≡ false
unfolding meeting
mark_never_returns s (clearing index next) e = kept_or_lost (eqb next s.entry.standing.expected) s.entry.standing.whole e
mark_never_returns s (numbered index n effect) e = enacted_lost s (deal_of effect) _ e

-- ---- and so for the rest of the day, whatever messages come
module _ (index : ℕ) where
  abbrev Lost : View → Type 0
  Lost v = (volume_of index v).whole ≡ false

  act_mark : (v : View) (a : Act Effect) → Lost v → Lost (act_on v a).view
  unfolding volume_of
  act_mark v a e = go (eqb index (index_of a)) refl
    where
      own : index ≡ index_of a → (x : Option Symbol) → symbol_in (index_of a) v ≡ x → (volume_in (symbol_in index (act_on v a).view)).whole ≡ false
      own is none f = rw (is, unregistered_stays v a f, f)
      own is (some s) f = rw (is, own_symbol v a s f) (mark_never_returns s a (rw (is, f) at e))

      go : (t : Bool) → eqb index (index_of a) ≡ t → (volume_in (symbol_in index (act_on v a).view)).whole ≡ false
      go true q = own (eqb-true _ _ q) (symbol_in (index_of a) v) refl
      go false q = ap (λ (x : Option Symbol). (volume_in x).whole) (own_symbol_only v a index (eqb-false _ _ q)) ∙ e

  step_mark : (v : View) (d : Read) → Lost v → Lost (step_of v d).view
  unfolding step_of
  step_mark v d e = go d.outcome
    where
      go : (x : Outcome Message) → Lost (step_on v x).view
      go (done m) = act_mark v (meant m) e
      go (refused a) = e

  steps_mark : (ms : List (List ℕ)) (v : View) → Lost v → Lost (steps_of v ms)
  unfolding steps_of
  steps_mark [] v e = e
  steps_mark (m ∷ ms) v e = steps_mark ms (step_in v m).view (step_mark v (read_of v.market m) e)

  pub apply_mark : (b : Book) (s : List ℕ) (at : ℕ) (r : Moved) → Wf b → Moves b s at r → Lost (view b) → Lost (view r.book)
  unfolding move_of
  apply_mark b s at r w m e = rw (m.obeys w).next_view (go (reach_of (drop at s)))
    where
      go : (x : Outcome ℕ) → Lost (move_by x (view b) s at).view
      go (refused a) = e
      go (done n) = step_mark (view b) (read_of (view b).market (take n (drop at s))) e

  pub run_mark : (b : Book) (s : List ℕ) (from : ℕ) (r : Ran) → Wf b → Runs b s from r → Lost (view b) → Lost (view r.book)
  unfolding run_of
  run_mark b s from r w m e = rw (m.obeys w).next_view (steps_mark (walk_of s from).messages (view b) e)

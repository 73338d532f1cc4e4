-- Messages laid end to end are walked one by one: each reaches as far as its own bytes, whatever stands behind it.
use mathlib.Core.List.{List, [], ◌∷◌, ◌++◌, flatten}
use mathlib.Core.Path.{◌≡◌, refl, sym, ap, ◌∙◌}
use Prim.Native.Nat.{ℕ, zero, suc, ◌+◌, ◌<◌}
use native.Mathlib.Omega.{arith}
use native.Mathlib.Nat.{not-suc-le-zero}
use lib.ListN.{length, take, drop, length-append}
use lib.Seq.{take_at, drop_at, drop-drop}
use Rattle.wire.specs.Outcome.{Outcome, done}
use Rattle.wire.specs.Reading.{reach_of, reach_by}
use Rattle.wire.proofs.Cases.{reached, reach_more}
use Rattle.book.specs.Walk.{CompleteMessage, AllComplete, walk_by, walk_for, walk_of}
use Rattle.demands.specs.ByteFeed.{ByteFeed, begins, hears, loses, sent, delivered, Complete}

all_complete_more : (ms : List (List ℕ)) (m : List ℕ) → AllComplete ms → CompleteMessage m → AllComplete (ms ++ m ∷ [])
all_complete_more [] m a w = (w, tt)
all_complete_more (x ∷ ms) m a w = (a.0, all_complete_more ms m a.1 w)

pub sent_complete : (f : ByteFeed) → Complete f → AllComplete (sent f)
unfolding Complete sent
sent_complete begins w = tt
sent_complete (hears f m) w = all_complete_more (sent f) m (sent_complete f w.0) w.1
sent_complete (loses f m) w = all_complete_more (sent f) m (sent_complete f w.0) w.1

pub delivered_complete : (f : ByteFeed) → Complete f → AllComplete (delivered f)
unfolding Complete delivered
delivered_complete begins w = tt
delivered_complete (hears f m) w = all_complete_more (delivered f) m (delivered_complete f w.0) w.1
delivered_complete (loses f m) w = delivered_complete f w.0

walk_flatten : (ms : List (List ℕ)) → AllComplete ms → (fuel : ℕ) (s : List ℕ) (at : ℕ) → drop at s ≡ flatten ms → length (flatten ms) < fuel → (walk_for fuel s at).messages ≡ ms
unfolding walk_for flatten reach_of reach_by
walk_flatten [] w zero s at e h = refl
walk_flatten [] w (suc fuel) s at e h = rw e
walk_flatten (m ∷ ms) w zero s at e h = absurd (not-suc-le-zero h)
walk_flatten (m ∷ ms) w (suc fuel) s at e h =
    let r = reached m (length m) w.0 in
    let n = length-append m (flatten ms) in
    let first : take (length m) (drop at s) ≡ m = ap (take (length m)) e ∙ take_at m (flatten ms) (length m) refl in
    let rest : drop (at + length m) s ≡ flatten ms = sym (drop-drop (length m) at s) ∙ ap (drop (length m)) e ∙ drop_at m (flatten ms) (length m) refl in
    let reach : reach_of (drop at s) ≡ done (length m) = ap reach_of e ∙ (reach_more m (flatten ms) (length m) w.0).0 in
    ap (λ (x : Outcome ℕ). (walk_by x s at (λ e. walk_for fuel s e)).messages) reach
    ∙ (λ i. first i ∷ walk_flatten ms w.1 fuel s (at + length m) rest (omega (arith, h, r.least)) i)

pub walks_messages : (ms : List (List ℕ)) → AllComplete ms → (walk_of (flatten ms) 0).messages ≡ ms
unfolding walk_of
walks_messages ms w = walk_flatten ms w (suc (length (flatten ms))) (flatten ms) 0 refl (omega arith)

-- Each message that a walk passes is as long as its Msg Size, and the next one starts behind it, so the position is the start and the sizes passed.
use mathlib.Core.List.{List, []}
use mathlib.Core.Path.{◌≡◌, refl, sym, ap, ◌∙◌}
use Prim.Native.Nat.{ℕ, zero, suc, ◌+◌, ◌≤◌, ◌<◌}
use native.Mathlib.Omega.{arith}
use native.Mathlib.Nat.{not-suc-le-zero}
use lib.ListN.{length, drop, length-drop}
use Rattle.wire.specs.Outcome.{Outcome, done, refused}
use Rattle.wire.specs.Reading.{msg_size, reach_of}
use Rattle.wire.proofs.Cases.{reached, reach_short, own_size}
use Rattle.places.specs.Places.{sum_by}
use Rattle.book.specs.Walk.{landing, walk_by, walk_for, walk_of, Moves, Runs}
use Rattle.book.specs.declared.Book.{Book}
use Rattle.book.specs.declared.walk.Moved.{Moved}
use Rattle.book.specs.declared.walk.Ran.{Ran}

-- ---- one message moves by its Msg Size
pub moved_by_size : (b : Book) (s : List ℕ) (at n : ℕ) (r : Moved) → Moves b s at r → reach_of (drop at s) ≡ done n → r.at ≡ at + msg_size (drop at s)
moved_by_size b s at n r m e = m.at ∙ ap (λ (x : Outcome ℕ). landing x at) e ∙ ap (λ (k : ℕ). at + k) (sym (reached (drop at s) n e).size)

-- ---- a run's position is the start plus the sum of the Msg Sizes passed
walked : (f : ℕ) (s : List ℕ) (at : ℕ) → (walk_for f s at).at ≡ at + sum_by msg_size (walk_for f s at).messages
unfolding walk_for sum_by
walked zero s at = omega arith
walked (suc f) s at = go (λ e. walked f s e) (reach_of (drop at s)) refl
  where
    go : ((e : ℕ) → (walk_for f s e).at ≡ e + sum_by msg_size (walk_for f s e).messages) → (x : Outcome ℕ) → reach_of (drop at s) ≡ x
        → (walk_by x s at (λ e. walk_for f s e)).at ≡ at + sum_by msg_size (walk_by x s at (λ e. walk_for f s e)).messages
    go ih (refused a) e = omega arith
    go ih (done n) e = let h = ih (at + n) in let z = own_size (drop at s) n e in rw z (omega arith)

pub position_is_sum : (b : Book) (s : List ℕ) (from : ℕ) (r : Ran) → Runs b s from r → r.at ≡ from + sum_by msg_size (walk_of s from).messages
unfolding walk_of
position_is_sum b s from r m = m.at ∙ walked (suc (length s)) s from

-- ---- a start past the end is answered 1, and doesn't move
pub past_the_end : (s : List ℕ) (at : ℕ) → length s ≤ at → walk_of s at ≡ record { messages = []; at = at; answer = 1 }
unfolding walk_of walk_for
past_the_end s at h = rw (reach_short (drop at s) (omega (arith, length-drop at s)))

-- ---- where a run stops, the bytes from there on are why
stopped_by : (f : ℕ) (s : List ℕ) (at : ℕ) → length (drop at s) < f → reach_of (drop (walk_for f s at).at s) ≡ refused (walk_for f s at).answer
unfolding walk_for
stopped_by zero s at h = absurd (not-suc-le-zero h)
stopped_by (suc f) s at h = go (λ e k. stopped_by f s e k) (reach_of (drop at s)) refl
  where
    go : ((e : ℕ) → length (drop e s) < f → reach_of (drop (walk_for f s e).at s) ≡ refused (walk_for f s e).answer) → (x : Outcome ℕ) → reach_of (drop at s) ≡ x
        → reach_of (drop (walk_by x s at (λ e. walk_for f s e)).at s) ≡ refused (walk_by x s at (λ e. walk_for f s e)).answer
    go ih (refused a) e = e
    go ih (done n) e = let r = reached (drop at s) n e in ih (at + n) (omega (arith, h, r.least, r.there, length-drop at s, length-drop (at + n) s))

pub stops_there : (s : List ℕ) (at : ℕ) → reach_of (drop (walk_of s at).at s) ≡ refused (walk_of s at).answer
unfolding walk_of
stops_there s at = stopped_by (suc (length s)) s at (omega (arith, length-drop at s))

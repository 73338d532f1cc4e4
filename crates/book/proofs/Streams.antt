-- Every stream is complete messages end to end and then what is left: a walk passes what each Msg Size reaches over, and the next message starts behind it.
use mathlib.Core.List.{List, ◌++◌, append_assoc, flatten}
use mathlib.Core.Path.{◌≡◌, refl, sym, ap, ◌∙◌}
use Prim.Native.Nat.{ℕ, zero, suc, ◌+◌}
use native.Mathlib.Omega.{arith}
use lib.ListN.{length, take, drop, take-append-drop}
use lib.Seq.{length-take-le, drop-drop}
use Rattle.wire.specs.Outcome.{Outcome, done, refused}
use Rattle.wire.specs.Reading.{reach_of}
use Rattle.wire.proofs.Cases.{reached, reach_size, own_size}
use Rattle.book.specs.Walk.{CompleteMessage, AllComplete, walk_by, walk_for, walk_of}

-- the bytes that a message reaches over, alone
pub complete_part : (s : List ℕ) (n : ℕ) → reach_of s ≡ done n → CompleteMessage (take n s)
complete_part s n e =
    let r = reached s n e in
    let long : length (take n s) ≡ n = length-take-le n s r.there in
    reach_size (take n s) (omega (arith, r.least)) (omega (arith, r.least, own_size s n e)) (omega (arith, own_size s n e)) ∙ ap done (own_size s n e ∙ sym long)

walked_complete : (fuel : ℕ) (s : List ℕ) (at : ℕ) → AllComplete (walk_for fuel s at).messages
unfolding walk_for
walked_complete zero s at = tt
walked_complete (suc fuel) s at = go (walked_complete fuel s) (reach_of (drop at s)) refl
  where
    go : ((e : ℕ) → AllComplete (walk_for fuel s e).messages) → (x : Outcome ℕ) → reach_of (drop at s) ≡ x → AllComplete (walk_by x s at (λ e. walk_for fuel s e)).messages
    go ih (refused a) e = tt
    go ih (done n) e = (complete_part (drop at s) n e, ih (at + n))

walked_stream : (fuel : ℕ) (s : List ℕ) (at : ℕ) → flatten (walk_for fuel s at).messages ++ drop (walk_for fuel s at).at s ≡ drop at s
unfolding walk_for flatten
walked_stream zero s at = refl
walked_stream (suc fuel) s at = go (walked_stream fuel s) (reach_of (drop at s))
  where
    go : ((e : ℕ) → flatten (walk_for fuel s e).messages ++ drop (walk_for fuel s e).at s ≡ drop e s) → (x : Outcome ℕ)
        → flatten (walk_by x s at (λ e. walk_for fuel s e)).messages ++ drop (walk_by x s at (λ e. walk_for fuel s e)).at s ≡ drop at s
    go ih (refused a) = refl
    go ih (done n) =
        append_assoc (take n (drop at s)) (flatten (walk_for fuel s (at + n)).messages) (drop (walk_for fuel s (at + n)).at s)
        ∙ ap (λ (l : List ℕ). take n (drop at s) ++ l) (ih (at + n) ∙ sym (drop-drop n at s))
        ∙ take-append-drop n (drop at s)

pub record EndToEnd (s : List ℕ) (at : ℕ) : Type 0 where
  pub complete : AllComplete (walk_of s at).messages
  pub stream : flatten (walk_of s at).messages ++ drop (walk_of s at).at s ≡ drop at s

pub every_stream : (s : List ℕ) (at : ℕ) → EndToEnd s at
unfolding walk_of
every_stream s at = record { complete = walked_complete (suc (length s)) s at; stream = walked_stream (suc (length s)) s at }

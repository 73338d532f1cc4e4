-- A message that lies all in a part is the same in the file, and the next part starts with the bytes behind the last of them, so no cut is seen.
use mathlib.Core.Bool.{Bool, true, false}
use mathlib.Core.List.{List, [], ◌∷◌, ◌++◌, append_assoc, append-nil, flatten}
use mathlib.Core.Logic.{⊎_elim}
use mathlib.Core.Path.{◌≡◌, refl, sym, ap, ◌∙◌}
use Prim.Native.Nat.{ℕ}
use native.Mathlib.Nat.{zero-add, add-zero, add_assoc}
use native.Mathlib.Omega.{arith}
use lib.Dec.{eqb}
use lib.ListN.{take, drop}
use lib.Seq.{drop-drop, drop-append-le}
use borrow.Author.Tests.{eqb-true, eqb-false}
use Rattle.wire.specs.Outcome.{done, refused}
use Rattle.wire.specs.Reading.{reach_of}
use Rattle.wire.proofs.Cases.{reached, reach_short, reach_more}
use Rattle.book.specs.Walk.{Walk, walk_of}
use Rattle.parts.specs.Parts.{left_of, onward, unless_small, walk_from, walk_parts}
use Rattle.parts.proofs.More.{unreached, small_more}
use Rattle.parts.proofs.Walks.{after, walk_stops, walk_goes, by_messages, left_stops}

-- ---- one part, and the rest of the file
module _ (b : List ℕ) where
  abbrev InTwo : List ℕ → Type 0
  InTwo a = walk_of (a ++ b) 0 ≡ onward (walk_of a 0) (walk_of (left_of a ++ b) 0)

  in_two_stops : (a : List ℕ) (k : ℕ) → reach_of a ≡ refused k → InTwo a
  in_two_stops a k e =
      let w = walk_of (a ++ b) 0 in
      rw (walk_stops a k e) (λ i. record { messages = w.messages; at = sym (zero-add w.at) i; answer = w.answer })

  in_two_goes : (a : List ℕ) (n : ℕ) → reach_of a ≡ done n → InTwo (drop n a) → InTwo a
  in_two_goes a n e ih =
      let m = reach_more a b n e in
      let behind : drop n (a ++ b) ≡ drop n a ++ b = drop-append-le n a b (reached a n e).there in
      let w = walk_of (drop n a) 0 in
      let v = walk_of (left_of (drop n a) ++ b) 0 in
      rw (walk_goes a n e, ← drop-drop (walk_of (drop n a) 0).at n a)
      (walk_goes (a ++ b) n m.0
      ∙ (λ i. after (m.1 i) n (walk_of (behind i) 0))
      ∙ ap (after (take n a) n) ih
      ∙ (λ i. record { messages = take n a ∷ (w.messages ++ v.messages); at = sym (add_assoc n w.at v.at) i; answer = v.answer }))

-- the walk over a file is the walk over its first part, and then that over what is left, with the rest of the file behind it
parts_are_the_file : (a b : List ℕ) → walk_of (a ++ b) 0 ≡ onward (walk_of a 0) (walk_of (left_of a ++ b) 0)
parts_are_the_file a b = by_messages (InTwo b) (in_two_stops b) (in_two_goes b) a

-- at a Msg Size below 4 the walk over the file ends too
pub small_ends_the_file : (a b : List ℕ) → (walk_of a 0).answer ≡ 2 → walk_of (a ++ b) 0 ≡ walk_of a 0
small_ends_the_file a b two =
    let w = walk_of a 0 in
    parts_are_the_file a b
    ∙ ap (onward w) (walk_stops (left_of a ++ b) 2 (small_more (left_of a) b (left_stops a ∙ ap refused two)))
    ∙ (λ i. record { messages = append-nil w.messages i; at = add-zero w.at i; answer = sym two i })

-- ---- any number of parts
left_waits : (s : List ℕ) → ((walk_of s 0).answer ≡ 2 → ⊥) → reach_of (left_of s) ≡ refused 1
left_waits s other =
    left_stops s ∙ ap refused (⊎_elim (λ one. one) (λ small. absurd (other small.two)) (unreached (left_of s) (walk_of s 0).answer (left_stops s)))

next_part : (s rest : List ℕ) (next : Walk) → (reach_of (left_of s) ≡ refused 1 → next ≡ walk_of (left_of s ++ rest) 0) → (small : Bool) → eqb (walk_of s 0).answer 2 ≡ small →
    unless_small small (walk_of s 0) next ≡ walk_of (s ++ rest) 0
unfolding unless_small
next_part s rest next ih true e = sym (small_ends_the_file s rest (eqb-true _ _ e))
next_part s rest next ih false e = ap (onward (walk_of s 0)) (ih (left_waits s (eqb-false _ _ e))) ∙ sym (parts_are_the_file s rest)

cuts_from : (ps : List (List ℕ)) (left : List ℕ) → reach_of left ≡ refused 1 → walk_from left ps ≡ walk_of (left ++ flatten ps) 0
unfolding walk_from flatten
cuts_from [] left e = rw append-nil (sym (walk_stops left 1 e))
cuts_from (p ∷ ps) left e =
    next_part (left ++ p) (flatten ps) (walk_from (left_of (left ++ p)) ps) (cuts_from ps (left_of (left ++ p))) (eqb (walk_of (left ++ p) 0).answer 2) refl
    ∙ ap (λ (s : List ℕ). walk_of s 0) (append_assoc left p (flatten ps))

-- messages, position and answer are those of the file as one slice
pub cuts_do_not_matter : (ps : List (List ℕ)) → walk_parts ps ≡ walk_of (flatten ps) 0
unfolding walk_parts
cuts_do_not_matter ps = cuts_from ps [] (reach_short [] (omega arith))

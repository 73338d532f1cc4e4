-- What a walk finds hangs on the bytes from its position on, and not on where they stand, so it goes one message at a time over what is left.
use mathlib.Core.List.{List, [], ◌∷◌, ◌++◌, append_assoc, flatten}
use mathlib.Core.Path.{◌≡◌, refl, sym, ap, ◌∙◌, subst}
use Prim.Native.Nat.{ℕ, zero, suc, ◌+◌, ◌<◌}
use native.Mathlib.Omega.{arith}
use native.Mathlib.Nat.{not-suc-le-zero, zero-add, add_assoc}
use lib.ListN.{length, take, drop, length-drop, length-append}
use lib.Seq.{drop-drop, take_at, drop_at}
use Rattle.wire.specs.Outcome.{Outcome, done, refused}
use Rattle.wire.specs.Reading.{reach_of}
use Rattle.wire.proofs.Cases.{reached, reach_more}
use Rattle.book.specs.Walk.{Walk, AllComplete, walk_by, walk_for, walk_of}
use Rattle.book.proofs.Positions.{stops_there}
use Rattle.parts.specs.Parts.{stopped, left_of}

-- two walks from different positions find the same
record SameFound (at : ℕ) (w : Walk) (to : ℕ) (v : Walk) : Type 0 where
  messages : w.messages ≡ v.messages
  moved : w.at + to ≡ v.at + at
  answer : w.answer ≡ v.answer

module _ (s t : List ℕ) where
  -- with the same bytes before them, and messages enough to spare
  abbrev Agree : ℕ → ℕ → Type 0
  Agree f g = (at to : ℕ) → drop at s ≡ drop to t → length (drop at s) < f → length (drop at s) < g → SameFound at (walk_for f s at) to (walk_for g t to)

  agree_on : (f g : ℕ) → Agree f g → (at to : ℕ) → drop at s ≡ drop to t → length (drop at s) < suc f → length (drop at s) < suc g → (x : Outcome ℕ) → reach_of (drop at s) ≡ x →
      SameFound at (walk_by x s at (λ e. walk_for f s e)) to (walk_by x t to (λ e. walk_for g t e))
  agree_on f g ih at to d h k (refused a) e = record { messages = refl; moved = omega arith; answer = refl }
  agree_on f g ih at to d h k (done n) e =
      let r = reached (drop at s) n e in
      let on : drop (at + n) s ≡ drop (to + n) t = sym (drop-drop n at s) ∙ ap (drop n) d ∙ drop-drop n to t in
      let less : length (drop (at + n) s) + n ≡ length (drop at s) = ap (λ (z : List ℕ). length z + n) (sym (drop-drop n at s)) ∙ omega (arith, r.there, length-drop n (drop at s)) in
      let l = r.least in
      let w = ih (at + n) (to + n) on (omega arith) (omega arith) in
      let m = w.moved in
      record { messages = λ i. take n (d i) ∷ w.messages i; moved = omega arith; answer = w.answer }

  agree : (f g : ℕ) → Agree f g
  unfolding walk_for
  agree zero g at to d h k = absurd (not-suc-le-zero h)
  agree (suc f) g at to d h k = go (λ (j : ℕ). agree f j) g at to d h k
    where
      go : ((j : ℕ) → Agree f j) → (g at to : ℕ) → drop at s ≡ drop to t → length (drop at s) < suc f → length (drop at s) < g → SameFound at (walk_for (suc f) s at) to (walk_for g t to)
      go ih zero at to d h k = absurd (not-suc-le-zero k)
      go ih (suc j) at to d h k =
          subst (λ (x : Outcome ℕ). SameFound at (walk_by (reach_of (drop at s)) s at (λ e. walk_for f s e)) to (walk_by x t to (λ e. walk_for j t e))) (ap reach_of d)
          (agree_on f j (ih j) at to d h k (reach_of (drop at s)) refl)

-- ---- one message at a time
abbrev pub after : List ℕ → ℕ → Walk → Walk
after m n w = record { messages = m ∷ w.messages; at = n + w.at; answer = w.answer }

module _ (s : List ℕ) where
  pub walk_stops : (a : ℕ) → reach_of s ≡ refused a → walk_of s 0 ≡ stopped a
  unfolding walk_of walk_for
  walk_stops a e = rw e

  pub walk_goes : (n : ℕ) → reach_of s ≡ done n → walk_of s 0 ≡ after (take n s) n (walk_of (drop n s) 0)
  unfolding walk_of walk_for
  walk_goes n e =
      let r = reached s n e in
      let l = r.least in
      let less : length (drop (0 + n) s) + n ≡ length s = ap (λ (z : ℕ). length (drop z s) + n) (zero-add n) ∙ omega (arith, r.there, length-drop n s) in
      let here : length (drop (0 + n) s) ≡ length (drop n s) = ap (λ (z : ℕ). length (drop z s)) (zero-add n) in
      let w = agree s (drop n s) (length s) (suc (length (drop n s))) (0 + n) 0 (ap (λ (z : ℕ). drop z s) (zero-add n)) (omega arith) (omega arith) in
      let m = w.moved in
      let to : (walk_for (length s) s (0 + n)).at ≡ n + (walk_of (drop n s) 0).at = omega arith in
      rw e (λ i. record { messages = take n s ∷ w.messages i; at = to i; answer = w.answer i })

-- complete messages at the front are passed one by one, and the walk goes on behind them
pub walk_behind : (ms : List (List ℕ)) → AllComplete ms → (s : List ℕ) → walk_of (flatten ms ++ s) 0 ≡ record { messages = ms ++ (walk_of s 0).messages; at = length (flatten ms) + (walk_of s 0).at; answer = (walk_of s 0).answer }
unfolding flatten
walk_behind [] c s = λ i. record { messages = (walk_of s 0).messages; at = sym (zero-add (walk_of s 0).at) i; answer = (walk_of s 0).answer }
walk_behind (m ∷ ms) c s =
    let w = walk_of s 0 in
    ap (λ (l : List ℕ). walk_of l 0) (append_assoc m (flatten ms) s)
    ∙ walk_goes (m ++ (flatten ms ++ s)) (length m) (reach_more m (flatten ms ++ s) (length m) c.0).0
    ∙ (λ i. after (take_at m (flatten ms ++ s) (length m) refl i) (length m) (walk_of (drop_at m (flatten ms ++ s) (length m) refl i) 0))
    ∙ ap (after m (length m)) (walk_behind ms c.1 s)
    ∙ (λ i. record { messages = m ∷ (ms ++ w.messages); at = (sym (add_assoc (length m) (length (flatten ms)) w.at) ∙ ap (λ (n : ℕ). n + w.at) (sym (length-append m (flatten ms)))) i; answer = w.answer })

-- what holds where a walk stops, and of some bytes if of those behind their first message, holds of all bytes
module _ (P : List ℕ → Type 0) (stops : (s : List ℕ) (a : ℕ) → reach_of s ≡ refused a → P s) (goes : (s : List ℕ) (n : ℕ) → reach_of s ≡ done n → P (drop n s) → P s) where
  by_length : (f : ℕ) (s : List ℕ) → length s < f → P s
  by_length zero s h = absurd (not-suc-le-zero h)
  by_length (suc f) s h = go (λ t k. by_length f t k) (reach_of s) refl
    where
      go : ((t : List ℕ) → length t < f → P t) → (x : Outcome ℕ) → reach_of s ≡ x → P s
      go ih (refused a) e = stops s a e
      go ih (done n) e = let r = reached s n e in goes s n e (ih (drop n s) (omega (arith, h, r.least, r.there, length-drop n s)))

  pub by_messages : (s : List ℕ) → P s
  by_messages s = by_length (suc (length s)) s (omega arith)

-- where it stops, what is left is why
pub left_stops : (s : List ℕ) → reach_of (left_of s) ≡ refused (walk_of s 0).answer
left_stops s = stops_there s 0

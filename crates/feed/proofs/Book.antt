-- A reader that receives all of an accepted feed keeps what the rules make of each symbol's messages: a message that is done leaves just that, and others' leave it alone.
use Prim.Native.Nat.{ℕ}
use native.Mathlib.Omega.{arith}
use mathlib.Core.Bool.{Bool, true, false, cond}
use mathlib.Core.Option.{Option, none, some, IsSome}
use mathlib.Core.Path.{◌≡◌, refl, sym, ◌∙◌, ap}
use lib.Dec.{eqb}
use borrow.Author.Tests.{eqb-true, eqb-false}
use Rattle.feed.specs.Reader.{Act, index_of, Rules, Kept, meets, answer_of, after_of, expecting, shown, showing_of, New, unregistered, registered, Reader, Registered, quote}
use Rattle.feed.specs.Feed.{heard, lost, Feed, start, ◌▷◌, first, Accepted}
use Rattle.feed.specs.Book.{book_after, book_of, turn_after, turn_of, Follows, Orderly}
use Rattle.feed.proofs.Meets.{done_in_turn, done_after, in_turn_done, own_at, says_at}

module _ (R : Rules) where
  new_registered : {a : Option (Kept R.Orders)} → New R a → IsSome a → a ≡ some (expecting 1 R.empty)
  new_registered unregistered y = absurd y
  new_registered registered y = refl

  -- a symbol whose message is done is registered, and was before it
  answered_some : (a : Option (Kept R.Orders)) (m : Act R.Effect) → answer_of R a m ≡ 0 → IsSome a
  unfolding answer_of
  answered_some none m h = absurd (omega arith)
  answered_some (some k) m h = tt

  some_before : (a : Option (Kept R.Orders)) (m : Act R.Effect) → IsSome (after_of R a m) → IsSome a
  unfolding after_of
  some_before none m y = y
  some_before (some k) m y = tt

module _ (R : Rules) (D : Reader R) where
  -- one message: what the reader keeps of the symbol is what the rules make of it
  step_made : (s : D.State) (m : Act R.Effect) (i turn : ℕ) (orders : R.Orders) (own : Bool) → eqb i (index_of m) ≡ own → D.kept s i ≡ some (expecting turn orders) → D.answer s m ≡ 0 →
      D.kept (D.step s m) i ≡ some (expecting (cond own (turn_after R turn m) turn) (cond own (book_after R orders m) orders))
  unfolding answer_of after_of
  step_made s m i turn orders true q k a =
      let e = eqb-true i (index_of m) q in
      let h : (meets R (expecting turn orders) m).answer ≡ 0 = rw k at (sym (says_at R D s m i e) ∙ a) in
      own_at R D s m i e ∙ rw k (ap some (done_after R (expecting turn orders) m h))
  step_made s m i turn orders false q k a = D.other s m i (eqb-false i (index_of m) q) ∙ k

  step_some : (s : D.State) (m : Act R.Effect) (i : ℕ) (own : Bool) → eqb i (index_of m) ≡ own → Registered R D (D.step s m) i → Registered R D s i
  step_some s m i true q y = some_before R (D.kept s i) m (rw (own_at R D s m i (eqb-true i (index_of m) q)) at y)
  step_some s m i false q y = rw (D.other s m i (eqb-false i (index_of m) q)) at y

module _ (R : Rules) (D : Reader R) (s₀ : D.State) (new : (i : ℕ) → New R (D.kept s₀ i)) where
  pub first_keeps : (f : Feed R.Effect) → Accepted R D s₀ f → (i : ℕ) → Registered R D s₀ i → D.kept (first R D s₀ f) i ≡ some (expecting (turn_of R i f) (book_of R i f))
  unfolding first Accepted turn_of book_of
  first_keeps start a i y = new_registered R (new i) y
  first_keeps (f ▷ heard m) a i y = step_made R D (first R D s₀ f) m i (turn_of R i f) (book_of R i f) (eqb i (index_of m)) refl (first_keeps f a.0 i y) a.1
  first_keeps (f ▷ lost m) a i y = step_made R D (first R D s₀ f) m i (turn_of R i f) (book_of R i f) (eqb i (index_of m)) refl (first_keeps f a.0 i y) a.1

  -- the reader that receives all quotes demand 2's book, at every moment
  pub first_quotes_the_book : (f : Feed R.Effect) → Accepted R D s₀ f → (i : ℕ) → Registered R D s₀ i → quote R D (first R D s₀ f) i ≡ shown (R.shows (book_of R i f))
  unfolding showing_of
  first_quotes_the_book f a i y = rw (first_keeps f a i y)

  -- it registers nothing on the way
  first_some : (f : Feed R.Effect) (i : ℕ) → Registered R D (first R D s₀ f) i → Registered R D s₀ i
  unfolding first
  first_some start i y = y
  first_some (f ▷ heard m) i y = first_some f i (step_some R D (first R D s₀ f) m i (eqb i (index_of m)) refl y)
  first_some (f ▷ lost m) i y = first_some f i (step_some R D (first R D s₀ f) m i (eqb i (index_of m)) refl y)

  -- A message follows an accepted feed just if the reader answers 0
  follows : (f : Feed R.Effect) (m : Act R.Effect) → Accepted R D s₀ f → D.answer (first R D s₀ f) m ≡ 0 → Follows R D s₀ f m
  unfolding answer_of
  follows f m a h =
      let h' = sym (D.says (first R D s₀ f) m) ∙ h in
      let y = first_some f (index_of m) (answered_some R (D.kept (first R D s₀ f) (index_of m)) m h') in
      (y, done_in_turn R (expecting (turn_of R (index_of m) f) (book_of R (index_of m) f)) m (rw (first_keeps f a (index_of m) y) at h'))

  done_next : (f : Feed R.Effect) (m : Act R.Effect) → Accepted R D s₀ f → Follows R D s₀ f m → D.answer (first R D s₀ f) m ≡ 0
  unfolding answer_of
  done_next f m a n =
      D.says (first R D s₀ f) m ∙ rw (first_keeps f a (index_of m) n.0) (in_turn_done R (expecting (turn_of R (index_of m) f) (book_of R (index_of m) f)) m refl n.1)

  -- An orderly feed is applied without one refusal, by any reader that meets the laws; and no other feed is
  pub orderly_accepted : (f : Feed R.Effect) → Orderly R D s₀ f → Accepted R D s₀ f
  unfolding Orderly Accepted
  orderly_accepted start o = tt
  orderly_accepted (f ▷ heard m) o = let a = orderly_accepted f o.0 in (a, done_next f m a o.1)
  orderly_accepted (f ▷ lost m) o = let a = orderly_accepted f o.0 in (a, done_next f m a o.1)

  pub accepted_orderly : (f : Feed R.Effect) → Accepted R D s₀ f → Orderly R D s₀ f
  unfolding Orderly Accepted
  accepted_orderly start a = tt
  accepted_orderly (f ▷ heard m) a = (accepted_orderly f a.0, follows f m a.0 a.1)
  accepted_orderly (f ▷ lost m) a = (accepted_orderly f a.0, follows f m a.0 a.1)

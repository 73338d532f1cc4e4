-- A book that a host lends (M-110): the calls on it answer as those by value do, and leave a book that answers every later call alike.
use Rattle.std.specs.Prelude.{List, [], ◌∷◌, ◌≡◌, ℕ}
use Rattle.book.specs.State.{view}
use Rattle.book.specs.Walk.{move_of, walk_of, Moves, Runs}
use Rattle.book.specs.Reached.{Reached, Alike}
use Rattle.book.specs.declared.Book.{Book}
use Rattle.book.specs.declared.walk.Moved.{Moved}
use Rattle.book.specs.declared.walk.Ran.{Ran}
use Rattle.host.specs.Lent.{MovedTo, RanTo}
use Rattle.host.specs.declared.lent.Passed.{Passed}
use Rattle.host.specs.declared.lent.Ended.{Ended}
use Rattle.demands.specs.Demand1.{OneOf, Answers}

-- ---- demand 1 of the two calls: their numbers, and what a refusal leaves. c is the lent book afterwards
pub record LentNumbers (b : Book) : Type 0 where
  pub applying : {s : List ℕ} {c : Book} {r : Passed} → MovedTo b s c r → Answers (0 ∷ 1 ∷ 2 ∷ 3 ∷ 4 ∷ 5 ∷ 6 ∷ 7 ∷ 8 ∷ 9 ∷ 10 ∷ []) (move_of (view b) s 0).answer r.answer
  pub running : {s : List ℕ} {c : Book} {r : Ended} → RanTo b s c r → Answers (1 ∷ 2 ∷ []) (walk_of s 0).answer r.answer
  pub unchanged : {s : List ℕ} {c : Book} {r : Passed} → MovedTo b s c r → OneOf (1 ∷ 2 ∷ 3 ∷ 4 ∷ 5 ∷ 6 ∷ 8 ∷ []) r.answer → c ≡ b

-- ---- of one state and one slice, lent and by value
pub record LentAgrees : Type 0 where
  pub applying : {b c : Book} {s : List ℕ} {r : Passed} {q : Moved} → Reached b → MovedTo b s c r → Moves b s 0 q
      → (r.answer ≡ q.answer) × (r.offset ≡ q.offset) × (r.at ≡ q.at) × (r.stops ≡ q.stops) × Alike c q.book
  pub running : {b c : Book} {s : List ℕ} {r : Ended} {q : Ran} → Reached b → RanTo b s c r → Runs b s 0 q → (r.answer ≡ q.answer) × (r.at ≡ q.at) × Alike c q.book

-- the lent book afterwards is one that calls handed back
pub record LentReached : Type 0 where
  pub applying : {b c : Book} {s : List ℕ} {r : Passed} → Reached b → MovedTo b s c r → Reached c
  pub running : {b c : Book} {s : List ℕ} {r : Ended} → Reached b → RanTo b s c r → Reached c

-- A run that notes answers hands back a state that a run hands back, so that all that is proved of such states is proved of this one; and its promise leaves one outcome.
use Rattle.std.specs.Prelude.{List, ◌≡◌, ℕ}
use Rattle.book.specs.State.{view}
use Rattle.book.specs.Walk.{Notes}
use Rattle.book.specs.Reached.{Reached}
use Rattle.book.specs.declared.Book.{Book}
use Rattle.book.specs.declared.walk.Noted.{Noted}

pub record NotedReached : Type 0 where
  pub noting : {b : Book} {s : List ℕ} {from : ℕ} {before : List ℕ} {r : Noted} {after : List ℕ} → Reached b → Notes b s from before r after → Reached r.book

pub record OneNoted : Type 0 where
  pub noting : {b : Book} {s : List ℕ} {from : ℕ} {before : List ℕ} {q r : Noted} {c d : List ℕ} → Reached b → Notes b s from before q c → Notes b s from before r d
      → (q.answer ≡ r.answer) × (q.at ≡ r.at) × (q.count ≡ r.count) × (view q.book ≡ view r.book) × (c ≡ d)

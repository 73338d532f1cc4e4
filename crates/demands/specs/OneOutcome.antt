-- Contracts that bite: what two results of one call can differ in is nothing that a later call shows.
use Rattle.std.specs.Prelude.{List, ◌≡◌, ℕ}
use Rattle.markets.specs.declared.Market.{Market}
use Rattle.book.specs.State.{view, Fresh}
use Rattle.book.specs.Registering.{register_of}
use Rattle.book.specs.Promises.{Steps}
use Rattle.book.specs.Walk.{Moves, Runs}
use Rattle.book.specs.Reached.{Reached, Alike}
use Rattle.book.specs.declared.Book.{Book}
use Rattle.book.specs.declared.Done.{Done}
use Rattle.book.specs.declared.walk.Moved.{Moved}
use Rattle.book.specs.declared.walk.Ran.{Ran}

-- two states that the same calls handed back, each by results of its own that meet the contracts
pub data Together : Book → Book → Type 0 where
  new : {a b : Book} {market : Market} → Fresh market a → Fresh market b → Together a b
  registered : {a b : Book} {q r : Done} (index : ℕ) (name : List ℕ) (scale : ℕ) → Together a b
      → Steps a (register_of (view a) index name scale) q → Steps b (register_of (view b) index name scale) r → Together q.book r.book
  applied : {a b : Book} {s : List ℕ} {at : ℕ} {q r : Moved} → Together a b → Moves a s at q → Moves b s at r → Together q.book r.book
  ran : {a b : Book} {s : List ℕ} {at : ℕ} {q r : Ran} → Together a b → Runs a s at q → Runs b s at r → Together q.book r.book

pub record OneOutcome : Type 0 where
  -- `new` hands back one state of a market
  pub new : {a b : Book} {market : Market} → Fresh market a → Fresh market b → a ≡ b
  -- `register`, `apply` and `run`, called twice in one state: one answer, one offset, one position, one next view; `symbol`, `quote`, `day_volume` and `market`: one result
  pub each_call : {b : Book} → Reached b → Alike b b
  -- and what the same calls hand back answers every later call alike
  pub ever_after : {a b : Book} → Together a b → Alike a b

-- Whose quote and depth are given: a symbol's that is registered and not stale.
use Rattle.std.specs.Prelude.{Bool, true, false, ◌≡◌, ℕ, Result, Ok, Err}
use Rattle.std.proofs.Math.Option.{none, some}
use Rattle.book.specs.State.{Symbol, orders_at, view, symbol_in}
use Rattle.book.specs.declared.Book.{Book}
use Rattle.book.specs.declared.quote.Hidden.{Hidden}

-- refused, with 5 or else with 8
abbrev pub hidden_number : Hidden → ℕ
hidden_number Hidden.Unknown = 5
hidden_number Hidden.Stale = 8

-- there is a symbol with this index, and whether it is stale
pub record Standing (b : Book) (index : ℕ) (stale : Bool) : Type 0 where
  pub symbol : Symbol
  pub there : symbol_in index (view b) ≡ some symbol
  pub stands : symbol.entry.standing.stale ≡ stale

-- and its orders lie at place k
pub record ShownAt (b : Book) (index k : ℕ) : Type 0 where
  pub standing : Standing b index false
  pub orders : standing.symbol.orders ≡ orders_at b k

abbrev pub Shows : Book → ℕ → Result ℕ Hidden → Type 0
Shows b index (Ok k) = ShownAt b index k
Shows b index (Err Hidden.Unknown) = symbol_in index (view b) ≡ none
Shows b index (Err Hidden.Stale) = Standing b index true

-- The rows that a depth hands back are the rows of the symbol's live orders, of which the room proves what is said; and its first rows are the levels of the quote.
use mathlib.Core.Bool.{Bool, true, false}
use mathlib.Core.List.{List, [], ◌∷◌}
use mathlib.Core.Logic.{◌≢◌}
use mathlib.Core.Option.{Option, none, some}
use mathlib.Core.Path.{◌≡◌, refl, sym, ap, ◌∙◌, subst}
use Prim.Native.Nat.{ℕ}
use Rattle.places.specs.Places.{among}
use Rattle.orders.specs.Rows.{side_rows, row_at, as_level, OfRows}
use Rattle.orders.proofs.Ranking.{of_rows, first_row_is_the_level}
use Rattle.orders.specs.declared.Order.{Order}
use Rattle.book.specs.State.{Symbol, View, view, symbol_in}
use Rattle.book.specs.Quote.{quoted, quoted_if, quote_of, side_of}
use Rattle.book.specs.Depth.{no_depth, depth_by, depth_if, depth_of, rows_of}
use Rattle.book.proofs.Answers.{quote_answers}
use Rattle.book.specs.declared.Book.{Book}
use Rattle.book.specs.declared.depth.Depth.{Depth}
use Rattle.demands.specs.Depth.{depth_in, OfDepth, FirstRows, DepthAnswers}

-- ---- every depth that is not refused, of any state
module _ (b : Book) (index : ℕ) (s : Symbol) (there : symbol_in index (view b) ≡ some s) (fresh : s.entry.standing.stale ≡ false) where
  is : depth_in b index ≡ depth_if false s.orders
  unfolding depth_of
  is = ap depth_by there ∙ ap (λ (t : Bool). depth_if t s.orders) fresh

  side : (buy : Bool) → rows_of buy (depth_if false s.orders) ≡ side_rows buy s.orders
  side true = refl
  side false = refl

  pub depth_holds : OfDepth b index s
  depth_holds = record {
    answer = ap (λ (d : Depth). d.answer) is;
    rows = λ buy. subst (OfRows buy s.orders) (sym (ap (rows_of buy) is ∙ side buy)) (of_rows buy s.orders);
  }

-- ---- the first rows are the quote
pub first_row_is_the_quote : (v : View) (index : ℕ) → FirstRows v index
unfolding depth_of quote_of
first_row_is_the_quote v index = record { answer = answer (symbol_in index v); level = λ buy. level buy (symbol_in index v) }
  where
    answer_if : (t : Bool) (os : List Order) → (depth_if t os).answer ≡ (quoted_if t os).answer
    answer_if true os = refl
    answer_if false os = refl

    answer : (x : Option Symbol) → (depth_by x).answer ≡ (quoted x).answer
    answer none = refl
    answer (some s) = answer_if s.entry.standing.stale s.orders

    level_if_lem : (buy t : Bool) (os : List Order) → as_level (row_at (rows_of buy (depth_if t os)) 0) ≡ side_of buy (quoted_if t os)
    level_if_lem true true os = refl
    level_if_lem false true os = refl
    level_if_lem true false os = first_row_is_the_level true os
    level_if_lem false false os = first_row_is_the_level false os

    level : (buy : Bool) (x : Option Symbol) → as_level (row_at (rows_of buy (depth_by x)) 0) ≡ side_of buy (quoted x)
    level true none = refl
    level false none = refl
    level buy (some s) = level_if_lem buy s.entry.standing.stale s.orders

-- ---- so it answers with the quote's numbers; and refused, it shows no row
numbers : (v : View) (index : ℕ) → among (depth_of index v).answer (0 ∷ 5 ∷ 8 ∷ []) ≡ true
numbers v index = rw (first_row_is_the_quote v index).answer (quote_answers v index)

no_rows : (v : View) (index : ℕ) → (depth_of index v).answer ≢ 0 → depth_of index v ≡ no_depth (depth_of index v).answer
unfolding depth_of
no_rows v index = go (symbol_in index v)
  where
    shown : (t : Bool) (os : List Order) → (depth_if t os).answer ≢ 0 → depth_if t os ≡ no_depth (depth_if t os).answer
    shown true os n = refl
    shown false os n = absurd (n refl)

    go : (x : Option Symbol) → (depth_by x).answer ≢ 0 → depth_by x ≡ no_depth (depth_by x).answer
    go none n = refl
    go (some s) n = shown s.entry.standing.stale s.orders n

pub depth_answered : (b : Book) → DepthAnswers b
depth_answered b = record { numbers = numbers (view b); refused = no_rows (view b) }

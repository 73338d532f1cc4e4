-- Demand 2's book as a function of the feed alone: what the rules make of a symbol's messages, lost ones too, counted from its last clear or the start.
use Rattle.std.specs.Prelude.{ℕ, ◌+◌, cond, ◌≡◌, eqb}
use Rattle.feed.specs.Reader.{Fit, fits, misfit, no_room, Act, clearing, numbered, index_of, Rules, Reader, Registered}
use Rattle.feed.specs.Feed.{Feed, start, ◌▷◌, heard, lost}

module _ {O : Type 0} where
  -- what does not fit, or has no room, changes no order
  unfoldable pub fitted : O → Fit O → O
  fitted orders (fits after) = after
  fitted orders misfit = orders
  fitted orders no_room = orders

  unfoldable pub Fitting : Fit O → Type 0
  Fitting (fits after) = Unit {0}
  Fitting misfit = ⊥
  Fitting no_room = ⊥

module _ (R : Rules) where
  -- The orders after a message of the symbol, and after all of a feed
  unfoldable pub book_after : R.Orders → Act R.Effect → R.Orders
  book_after orders (clearing index next) = R.empty
  book_after orders (numbered index number effect) = fitted orders (R.apply orders effect)

  unfoldable pub book_of : ℕ → Feed R.Effect → R.Orders
  book_of i start = R.empty
  book_of i (f ▷ heard m) = cond (eqb i (index_of m)) (book_after (book_of i f) m) (book_of i f)
  book_of i (f ▷ lost m) = cond (eqb i (index_of m)) (book_after (book_of i f) m) (book_of i f)

  -- The number in turn after a message of the symbol, and after all of a feed
  unfoldable pub turn_after : ℕ → Act R.Effect → ℕ
  turn_after turn (clearing index next) = next
  turn_after turn (numbered index number effect) = turn + 1

  unfoldable pub turn_of : ℕ → Feed R.Effect → ℕ
  turn_of i start = 1
  turn_of i (f ▷ heard m) = cond (eqb i (index_of m)) (turn_after (turn_of i f) m) (turn_of i f)
  turn_of i (f ▷ lost m) = cond (eqb i (index_of m)) (turn_after (turn_of i f) m) (turn_of i f)

  -- A message in its turn: a clear, or a numbered one that has the number in turn and fits
  unfoldable pub InTurn : ℕ → R.Orders → Act R.Effect → Type 0
  InTurn turn orders (clearing index next) = Unit {0}
  InTurn turn orders (numbered index number effect) = (number ≡ turn) × Fitting (R.apply orders effect)

  -- A feed of registered symbols with every message in its turn. A reader accepts these feeds (`orderly-accepted`) and no others (`accepted-orderly`).
  module _ (D : Reader R) (s₀ : D.State) where
    abbrev pub Follows : Feed R.Effect → Act R.Effect → Type 0
    Follows f m = Registered R D s₀ (index_of m) × InTurn (turn_of (index_of m) f) (book_of (index_of m) f) m

    unfoldable pub Orderly : Feed R.Effect → Type 0
    Orderly start = Unit {0}
    Orderly (f ▷ heard m) = Orderly f × Follows f m
    Orderly (f ▷ lost m) = Orderly f × Follows f m

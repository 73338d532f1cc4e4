-- Eight shelves with tickets beside them, over any element: what holds of them in every state, and a change that is seen on one shelf alone.
use Rattle.std.specs.Prelude.{Bool, List, ◌≡◌, ℕ, ◌*◌, length}
use Rattle.places.specs.Places.{symbols, on_shelf, Singles}
use Rattle.places.specs.Tickets.{Ticketed}

module _ {A : Type 0} (key : A → ℕ) (live : A → Bool) (n : ℕ) where
  -- no number is live twice on a shelf, every symbol has its places, and the tickets are those of the places
  pub record Shelved (l : List A) (tickets : List ℕ) : Type 0 where
    pub singles : Singles key live n l
    pub long : length l ≡ symbols * n
    pub ticketed : Ticketed key live l tickets

  -- l with these live on shelf k, and on every other shelf those that were
  pub record Reshelved (l : List A) (k : ℕ) (now-live : List A) (m : List A) (tickets : List ℕ) : Type 0 where
    pub shelved : Shelved m tickets
    pub own : on_shelf key live n m k ≡ now-live
    pub others : (j : ℕ) → (j ≡ k → ⊥) → on_shelf key live n m j ≡ on_shelf key live n l j

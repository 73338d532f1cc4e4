-- Tickets beside places, for a search that goes from the first place on: at each place stands its number and one, or 0 where nothing is live. Like a home, a ticket matters to nothing
-- but time.
use Rattle.std.specs.Prelude.{Bool, cond, List, map, ◌≡◌, ℕ, suc, eqb, length, take, drop}
use Rattle.places.specs.Places.{first_where}
use Rattle.places.specs.Homes.{outside}

-- the first place of a shelf at which a number stands, or n. A shelf is n places from place `from` on
unfoldable pub first_in : List ℕ → ℕ → ℕ → ℕ → ℕ
first_in numbers from n number = cond (outside from n (length numbers)) n (first_where (λ x. eqb x number) (take n (drop from numbers)))

module _ {A : Type 0} (key : A → ℕ) (live : A → Bool) where
  abbrev pub ticket : A → ℕ
  ticket a = cond (live a) (suc (key a)) 0

  abbrev pub Ticketed : List A → List ℕ → Type 0
  Ticketed l ts = ts ≡ map ticket l

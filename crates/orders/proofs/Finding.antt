-- What a search finds among the numbers and marks of the orders is where the order lies, or where there is room.
use mathlib.Core.Bool.{Bool, true, false, true≢false, false≢true}
use mathlib.Core.List.{List}
use mathlib.Core.Path.{◌≡◌, refl, sym, ap, ◌∙◌}
use Prim.Native.Nat.{zero, suc, ℕ, ◌+◌, ◌*◌, ◌<◌, ◌≤◌}
use native.Mathlib.Nat.{le_of_suc-le-suc, not-suc-le-zero}
use native.Mathlib.Omega.{arith}
use lib.ListN.{length, get_or, take, drop}
use lib.Seq.{drop-drop}
use Rattle.std.specs.Prelude.{Option, Some, None, is_some, IfSome, MatchOption}
use Rattle.std.specs.Simd.{first_chunks}
use Rattle.places.specs.Places.{symbols, shelf, AtPlace}
use Rattle.places.specs.Homes.{sought_in, free_in, Mirrored, Near}
use Rattle.places.proofs.EightShelves.{shelf_reach, whole_shelf}
use Rattle.places.proofs.Mirroring.{as_many_marks, found_near, free_on}
use Rattle.orders.specs.State.{orders_each, no_order, order_number, order_live, shelf_at, Wf}
use Rattle.orders.specs.Deciding.{OrderAt, OrderRoom, Searchable, place_of, room_in}
use Rattle.orders.specs.declared.Order.{Order}
use Rattle.orders.specs.declared.Orders.{Orders}

module _ (ls : List Bool) (size : length ls ≡ symbols * orders_each) (k : ℕ) (h : k < symbols) (number : ℕ) (l : List Order) (ns : List ℕ) (w : Mirrored order_number order_live l ns ls) where
  reach : k * orders_each + orders_each ≤ length l
  reach = shelf_reach orders_each k l (sym (as_many_marks order_number order_live l ns ls w) ∙ size) h

  free : (r : ℕ) → r ≡ free_in ls (k * orders_each) orders_each number → OrderRoom (shelf orders_each k l) r
  free r e = rw e (free_on order_number order_live no_order refl refl l ns ls w orders_each k (omega arith) reach number)

  found : (ss : List ℕ) → length ss ≡ symbols * orders_each → Near ns ls ss (k * orders_each) orders_each → (r : ℕ) → r ≡ sought_in ns ls ss (k * orders_each) orders_each number → OrderAt number (shelf orders_each k l) r
  found ss long near r e = rw e (found_near order_number order_live no_order refl refl l ns ls w orders_each k (omega arith) reach number ss (shelf_reach orders_each k ss long h) near)

-- ---- so where a symbol can be searched
module _ (b : Orders) (k : ℕ) (h : k < symbols) (w : Searchable b k) (size : length b.lives ≡ symbols * orders_each) (number r : ℕ) where
  pub room_at : r ≡ room_in b k number → OrderRoom (shelf_at b k) r
  room_at = free b.lives size k h number b.places b.numbers w.mirrored r

  pub found_at : length b.spans ≡ symbols * orders_each → r ≡ sought_in b.numbers b.lives b.spans (k * orders_each) orders_each number → OrderAt number (shelf_at b k) r
  found_at long = found b.lives size k h number b.places b.numbers w.mirrored b.spans long w.near r

-- in a sound state each symbol can be
pub searchable : (b : Orders) (k : ℕ) → k < symbols → Wf b → Searchable b k
searchable b k h w = record { whole = whole_shelf order_number order_live orders_each b.places k w.singles h w.sized.places; mirrored = w.mirrored; near = w.near k h }

-- one past the last tells as much as any past it
pub past_the_last : (n i : ℕ) (l : List Order) → orders_each ≤ i → OrderAt n l i → OrderAt n l orders_each
past_the_last n i l h p = record { there = λ g. absurd (omega (arith, g)); nowhere = λ g. p.nowhere h }

pub no_room_left : (i : ℕ) (l : List Order) → orders_each ≤ i → OrderRoom l i → OrderRoom l orders_each
no_room_left i l h p = record { there = λ g. absurd (omega (arith, g)); nowhere = λ g. p.nowhere h }

-- what a search of `places` answers, as a place of the shelf
pub within_shelf : (r : Option ℕ) (s : ℕ) → AtPlace orders_each r s → IfSome r (λ i. i < orders_each)
within_shelf None s p = tt
within_shelf (Some i) s p = p.1

pub near_place : (r : Option ℕ) (s : ℕ) → AtPlace orders_each r s → MatchOption r (orders_each ≤ s) (λ i. (i ≡ s) × (i < orders_each))
near_place None s p = p
near_place (Some i) s p = p

pub found_place : (n : ℕ) (l : List Order) (r : Option ℕ) (s : ℕ) → AtPlace orders_each r s → OrderAt n l s → OrderAt n l (place_of r)
found_place n l None s p o = past_the_last n s l p o
found_place n l (Some i) s p o = rw p.0 o

pub room_place : (l : List Order) (r : Option ℕ) (s : ℕ) → AtPlace orders_each r s → OrderRoom l s → OrderRoom l (place_of r)
room_place l None s p o = no_room_left s l p o
room_place l (Some i) s p o = rw p.0 o

-- a shelf among the shelves of all
pub chunk_is_shelf : (n m k : ℕ) (l : List Order) (d : List Order) → k < m → get_or (first_chunks n m l) k d ≡ shelf n k l
chunk_is_shelf n zero k l d h = absurd (not-suc-le-zero h)
chunk_is_shelf n (suc m) zero l d h = let none : 0 * n ≡ 0 = omega arith in ap (λ (i : ℕ). take n (drop i l)) (sym none)
chunk_is_shelf n (suc m) (suc k) l d h =
    let next : n + k * n ≡ suc k * n = omega arith in
    chunk_is_shelf n m k (drop n l) d (le_of_suc-le-suc h) ∙ ap (take n) (drop-drop (k * n) n l ∙ ap (λ (i : ℕ). drop i l) next)

-- ---- whether a place was found
pub there : (r : Option ℕ) → is_some r ≡ true → IfSome r (λ i. i < orders_each) → place_of r < orders_each
there None e h = absurd (false≢true e)
there (Some i) e h = h

pub nowhere : (r : Option ℕ) → is_some r ≡ false → orders_each ≤ place_of r
nowhere None e = omega arith
nowhere (Some i) e = absurd (true≢false e)

-- A search is that of its definition: outside its lists there is no shelf; inside, it goes round from the home. n, s, h and top are what the code worked out of its arguments.
use mathlib.Core.Bool.{Bool, true, false, cond, not}
use mathlib.Core.List.{List}
use mathlib.Core.Logic.{◌⊎◌, inl, inr}
use mathlib.Core.Path.{◌≡◌, sym, ap, ◌∙◌}
use Prim.Native.Nat.{ℕ, ◌+◌, ◌-◌, ◌<◌, ◌≤◌, min, max}
use native.Mathlib.Omega.{arith}
use borrow.Author.Tests.{lt-ltb, le-ltb}
use lib.ListN.{length, get_or}
use Rattle.places.specs.Homes.{home_of, round_from, away_from, first_round, last_round, outside, holds, homed, sought_in, free_in, raised_to, lowered_to}
use Rattle.places.proofs.Rounds.{home_within, inside, Leaves, leaves_here, leaves_none, Remains, remains_here, remains_none}

-- inside its lists a shelf has its home
pub record Stands (from n s h : ℕ) : Type 0 where
  pub fits : from + n ≤ s
  pub home : h < n

pub stands : (from each number n s h : ℕ) (out : Bool) → n ≡ each → h ≡ home_of each number → out ≡ outside from each s → out ≡ false → Stands from n s h
stands from each number n s h out wide home told left =
    let i = inside from n s (rw wide (sym told ∙ left)) in
    record { fits = i.fits; home = rw (home, wide) (home_within each number (rw wide at i.some)) }

-- one that is past the last place is at none
pub none_at : (n each s : ℕ) → n ≡ each → n ≡ s → each ≤ s
none_at n each s e is = omega (arith, e, is)

-- ---- what the definitions say inside their lists
pub sought_inside : (numbers : List ℕ) (lives : List Bool) (spans : List ℕ) (from n number : ℕ) → outside from n (min (min (length numbers) (length lives)) (length spans)) ≡ false
    → sought_in numbers lives spans from n number ≡ first_round n (home_of n number) (min (get_or spans (from + home_of n number) 0) n) 0 (λ i. holds numbers lives number (from + i))
unfolding sought_in
sought_inside numbers lives spans from n number e = rw e

pub free_inside : (lives : List Bool) (from n number : ℕ) → outside from n (length lives) ≡ false → free_in lives from n number ≡ first_round n (home_of n number) n 0 (λ i. not (get_or lives (from + i) false))
unfolding free_in
free_inside lives from n number e = rw e

pub lowered_inside : (numbers : List ℕ) (lives : List Bool) (from n number span : ℕ) → outside from n (min (length numbers) (length lives)) ≡ false
    → lowered_to numbers lives from n number span ≡ last_round n (home_of n number) (min span n) (λ i. homed n numbers lives (home_of n number) (from + i))
unfolding lowered_to
lowered_inside numbers lives from n number span e = rw e

-- ---- a number
module _ (numbers : List ℕ) (lives : List Bool) (spans : List ℕ) (from each number n s : ℕ) (out : Bool)
    (wide : n ≡ each) (shortest : s ≡ min (min (length numbers) (length lives)) (length spans)) (told : out ≡ outside from each s) where
  pub sought_outside : out ≡ true → n ≡ sought_in numbers lives spans from each number
  unfolding sought_in
  sought_outside e = wide ∙ rw (rw shortest at (sym told ∙ e))

  module _ (left : out ≡ false) (h top : ℕ) (home : h ≡ home_of each number) (capped : top ≡ min (get_or spans (from + h) 0) each) (j : ℕ) (l : Leaves n h top (λ i. holds numbers lives number (from + i)) j) where
    sought_is : first_round n h top 0 (λ i. holds numbers lives number (from + i)) ≡ sought_in numbers lives spans from each number
    sought_is = rw (capped, home, wide) (sym (sought_inside numbers lives spans from each number (rw shortest at (sym told ∙ left))))

    pub sought_nowhere : top ≤ j → n ≡ sought_in numbers lives spans from each number
    sought_nowhere g = leaves_none n h top _ j g l ∙ sought_is

    pub sought_here : (i : ℕ) → i ≡ round_from n h j → j < top → holds numbers lives number (from + i) ≡ true → i ≡ sought_in numbers lives spans from each number
    sought_here i is g e = is ∙ leaves_here n h top _ j g (rw is at e) l ∙ sought_is

-- ---- room
module _ (lives : List Bool) (from each number n : ℕ) (out : Bool) (wide : n ≡ each) (told : out ≡ outside from each (length lives)) where
  pub room_outside : out ≡ true → n ≡ free_in lives from each number
  unfolding free_in
  room_outside e = wide ∙ rw (sym told ∙ e)

  module _ (left : out ≡ false) (h : ℕ) (home : h ≡ home_of each number) (j : ℕ) (l : Leaves n h n (λ i. not (get_or lives (from + i) false)) j) where
    free_is : first_round n h n 0 (λ i. not (get_or lives (from + i) false)) ≡ free_in lives from each number
    free_is = rw (home, wide) (sym (free_inside lives from each number (sym told ∙ left)))

    pub room_nowhere : n ≤ j → n ≡ free_in lives from each number
    room_nowhere g = leaves_none n h n _ j g l ∙ free_is

    pub room_here : (i : ℕ) → i ≡ round_from n h j → j < n → get_or lives (from + i) false ≡ false → i ≡ free_in lives from each number
    room_here i is g e = is ∙ leaves_here n h n _ j g (ap not (rw is at e)) l ∙ free_is

-- ---- a span raised
module _ (span each number : ℕ) (live : Bool) (i n h away : ℕ) (wide : n ≡ each) (home : h ≡ home_of each number) (far : away ≡ away_from n h i) (g : i < n) where
  raised_is : raised_to each number live i span ≡ cond live (max span (away + 1)) span
  unfolding raised_to
  raised_is = rw (lt-ltb i each (rw wide at g), far, home, wide)

  pub raised_most : live ≡ true → max span (away + 1) ≡ raised_to each number live i span
  raised_most e = sym (rw (raised_is, e))

-- past the shelf, or of a number that is not live
pub raised_not : (span each number : ℕ) (live : Bool) (i n : ℕ) → n ≡ each → (n ≤ i) ⊎ ((i < n) × (live ≡ false)) → span ≡ raised_to each number live i span
unfolding raised_to
raised_not span each number live i n wide (inl h) = rw (le-ltb i each (rw wide at h))
raised_not span each number live i n wide (inr u) = rw (lt-ltb i each (rw wide at u.0), u.1)

-- ---- a span lowered
module _ (numbers : List ℕ) (lives : List Bool) (from each number span n s : ℕ) (out : Bool) (wide : n ≡ each) (shortest : s ≡ min (length numbers) (length lives)) (told : out ≡ outside from each s) where
  pub lowered_outside : out ≡ true → span ≡ lowered_to numbers lives from each number span
  unfolding lowered_to
  lowered_outside e = rw (rw shortest at (sym told ∙ e))

  module _ (left : out ≡ false) (h : ℕ) (home : h ≡ home_of each number) (j : ℕ) (l : Remains n h (min span each) (λ i. homed each numbers lives h (from + i)) j) where
    lowered_is : last_round n h (min span each) (λ i. homed each numbers lives h (from + i)) ≡ lowered_to numbers lives from each number span
    lowered_is = rw (home, wide) (sym (lowered_inside numbers lives from each number span (rw shortest at (sym told ∙ left))))

    pub lowered_none : j ≡ 0 → 0 ≡ lowered_to numbers lives from each number span
    lowered_none e = remains_none n h (min span each) _ (rw e at l) ∙ lowered_is

    pub lowered_here : (i : ℕ) → i ≡ round_from n h (j - 1) → 0 < j → homed each numbers lives h (from + i) ≡ true → j ≡ lowered_to numbers lives from each number span
    lowered_here i is g e = remains_here n h (min span each) _ j g (rw is at e) l ∙ lowered_is

-- Where a number is looked for: from its home on, going round its shelf, as far as live numbers of that home lie. The searches' contracts cite it, and so does what holds of every
-- state; no rule does, and no answer hangs on it: which place a home is matters to nothing but time. A shelf is n places from place `from` on. Searches read three lists: the numbers,
-- whether each is live, and the spans.
use Rattle.std.specs.Prelude.{Bool, true, false, cond, not, List, map, ◌≡◌, ℕ, zero, suc, ◌+◌, ◌-◌, ◌*◌, ◌/◌, ◌%◌, ◌<◌, max, min, leb, ltb, eqb, length, get_or, set}

-- what a half of a number is below, and its share by the golden ratio
abbrev pub half : ℕ
half = 4294967296

abbrev pub golden : ℕ
golden = 2654435769

-- a width has 16 bits
abbrev pub most_places : ℕ
most_places = 65535

-- a number's two halves added, spread over the 32 bits of a half
abbrev pub spread : ℕ → ℕ
spread number = (number % half + number / half) % half * golden % half

-- the home of a number among n places
unfoldable pub home_of : ℕ → ℕ → ℕ
home_of n number = spread number * n / half

-- the place j places on from a home, going round
unfoldable pub round_from : ℕ → ℕ → ℕ → ℕ
round_from n h j = cond (ltb (h + j) n) (h + j) (h + j - n)

-- how many places on from a home a place is
unfoldable pub away_from : ℕ → ℕ → ℕ → ℕ
away_from n h i = cond (leb h i) (i - h) (i + n - h)

-- the first place that passes, of m going round from the one j places on, or n
unfoldable pub first_round : ℕ → ℕ → ℕ → ℕ → (ℕ → Bool) → ℕ
first_round n h zero j p = n
first_round n h (suc m) j p = cond (p (round_from n h j)) (round_from n h j) (first_round n h m (j + 1) p)

-- how many places going round reach as far as the last that passes, of m
unfoldable pub last_round : ℕ → ℕ → ℕ → (ℕ → Bool) → ℕ
last_round n h zero p = 0
last_round n h (suc m) p = cond (p (round_from n h m)) (suc m) (last_round n h m p)

-- there is no such shelf in a list of this length
unfoldable pub outside : ℕ → ℕ → ℕ → Bool
outside from n long = cond (eqb n 0) true (ltb long (from + n))

-- whether a number is live at a place, and whether one of a home is
abbrev pub holds : List ℕ → List Bool → ℕ → ℕ → Bool
holds numbers lives number p = cond (get_or lives p false) (eqb (get_or numbers p 0) number) false

abbrev pub homed : ℕ → List ℕ → List Bool → ℕ → ℕ → Bool
homed n numbers lives h p = cond (get_or lives p false) (eqb (home_of n (get_or numbers p 0)) h) false

-- ---- the searches: a place of the shelf, or n
unfoldable pub sought_in : List ℕ → List Bool → List ℕ → ℕ → ℕ → ℕ → ℕ
sought_in numbers lives spans from n number =
    cond (outside from n (min (min (length numbers) (length lives)) (length spans))) n
    (first_round n (home_of n number) (min (get_or spans (from + home_of n number) 0) n) 0 (λ i. holds numbers lives number (from + i)))

unfoldable pub free_in : List Bool → ℕ → ℕ → ℕ → ℕ
free_in lives from n number = cond (outside from n (length lives)) n (first_round n (home_of n number) n 0 (λ i. not (get_or lives (from + i) false)))

-- ---- the spans: for each home, how many places from it on may hold a live number of it
-- one that reaches place i too, where a live number of that home comes to lie
unfoldable pub raised_to : ℕ → ℕ → Bool → ℕ → ℕ → ℕ
raised_to n number live i span = cond (ltb i n) (cond live (max span (away_from n (home_of n number) i + 1)) span) span

-- one that reaches no further than the last live number of that home
unfoldable pub lowered_to : List ℕ → List Bool → ℕ → ℕ → ℕ → ℕ → ℕ
lowered_to numbers lives from n number span =
    cond (outside from n (min (length numbers) (length lives))) span
    (last_round n (home_of n number) (min span n) (λ i. homed n numbers lives (home_of n number) (from + i)))

-- the spans of a shelf with that of one home raised, or lowered
abbrev pub raised_at : List ℕ → ℕ → ℕ → ℕ → ℕ → Bool → List ℕ
raised_at spans from n i number live = set spans (from + home_of n number) (raised_to n number live i (get_or spans (from + home_of n number) 0))

abbrev pub lowered_at : List ℕ → List Bool → List ℕ → ℕ → ℕ → ℕ → List ℕ
lowered_at numbers lives spans from n was = set spans (from + home_of n was) (lowered_to numbers lives from n was (get_or spans (from + home_of n was) 0))

-- whether a live number leaves a place that is stored to: one was live there, and afterwards none is, or another number stands there
unfoldable pub leaves : Bool → Bool → Bool → Bool
--     lived  live   same number
leaves false live same = false
leaves true false same = true
leaves true true same = not same

-- the spans after a store at place i: that of the new number's home is raised; then, where a live number leaves the place, that of its home is lowered
abbrev pub spans_after : List ℕ → List Bool → List ℕ → ℕ → ℕ → ℕ → ℕ → Bool → List ℕ
spans_after numbers lives spans from n i number live =
    cond (leaves (get_or lives (from + i) false) live (eqb (get_or numbers (from + i) 0) number))
    (lowered_at (set numbers (from + i) number) (set lives (from + i) live) (raised_at spans from n i number live) from n (get_or numbers (from + i) 0))
    (raised_at spans from n i number live)

-- ---- what holds wherever searches are made
-- the numbers and the marks are those of the elements
pub record Mirrored {A : Type 0} (key : A → ℕ) (live : A → Bool) (l : List A) (ns : List ℕ) (ls : List Bool) : Type 0 where
  pub numbers : ns ≡ map key l
  pub lives : ls ≡ map live l

-- each live number of a shelf lies less far from its home than that home's span
pub record Near (numbers : List ℕ) (lives : List Bool) (spans : List ℕ) (from n : ℕ) : Type 0 where
  pub near : (i : ℕ) → i < n → get_or lives (from + i) false ≡ true
      → away_from n (home_of n (get_or numbers (from + i) 0)) i < get_or spans (from + home_of n (get_or numbers (from + i) 0)) 0

-- By computation: two live numbers of one home on a shelf of four places, the second not at it but round the end, are mirrored and near, so that what a search asks for is met by more
-- than empty places. It is asked for with reason: where the home's span reaches the first alone, the second is live and is not found.
use mathlib.Core.Bool.{Bool, true, false, false≢true}
use mathlib.Core.List.{List, [], ◌∷◌}
use mathlib.Core.Path.{◌≡◌, refl}
use Prim.Native.Nat.{ℕ, zero, suc, ◌+◌, ◌<◌}
use native.Mathlib.Omega.{arith}
use lib.Dec.{ltb}
use lib.ListN.{get_or}
use Rattle.places.specs.Homes.{home_of, round_from, away_from, first_round, last_round, outside, sought_in, free_in, raised_to, lowered_to, leaves, spans_after, Mirrored, Near}

-- the halves of both have the sum 3
abbrev at_home : ℕ
at_home = 3

abbrev beside : ℕ
beside = 4294967298

-- a place is a number, and live unless that is 0
abbrev key : ℕ → ℕ
key a = a

abbrev live : ℕ → Bool
live a = ltb 0 a

abbrev numbers : List ℕ
numbers = beside ∷ 0 ∷ 0 ∷ at_home ∷ []

abbrev lives : List Bool
lives = true ∷ false ∷ false ∷ true ∷ []

abbrev spans : List ℕ
spans = 0 ∷ 0 ∷ 0 ∷ 2 ∷ []

pub one_home : (home_of 4 at_home ≡ 3) × (home_of 4 beside ≡ 3)
unfolding home_of
one_home = (refl, refl)

-- homes are spread over the whole shelf, however wide
pub far_apart : (home_of 64 1 ≡ 39) × (home_of 64 2 ≡ 15) × (home_of 256 1 ≡ 158)
unfolding home_of
far_apart = (refl, refl, refl)

pub two_mirrored : Mirrored key live numbers numbers lives
two_mirrored = record { numbers = refl; lives = refl }

near_each : (i : ℕ) → i < 4 → get_or lives (0 + i) false ≡ true → away_from 4 (home_of 4 (get_or numbers (0 + i) 0)) i < get_or spans (0 + home_of 4 (get_or numbers (0 + i) 0)) 0
unfolding home_of away_from
near_each zero h l = omega arith
near_each (suc zero) h l = absurd (false≢true l)
near_each (suc (suc zero)) h l = absurd (false≢true l)
near_each (suc (suc (suc zero))) h l = omega arith
near_each (suc (suc (suc (suc i)))) h l = absurd (omega (arith, h))

pub two_near : Near numbers lives spans 0 4
two_near = record { near = near_each }

pub found_round_the_end : sought_in numbers lives spans 0 4 beside ≡ 0
unfolding sought_in outside home_of first_round round_from
found_round_the_end = refl

pub missed_past_a_span : sought_in numbers lives (0 ∷ 0 ∷ 0 ∷ 1 ∷ []) 0 4 beside ≡ 4
unfolding sought_in outside home_of first_round round_from
missed_past_a_span = refl

-- from the first place on it would be 1; the home of 1 is 2
pub room_from_the_home_on : free_in lives 0 4 1 ≡ 2
unfolding free_in outside home_of first_round round_from
room_from_the_home_on = refl

-- a store at the first place: the second number comes to the one at home; it gives way to 1; it goes. The span of the home that gains reaches as far as the number lies, that of the home
-- that loses as far as the one at home, past whatever else is live
pub comes : spans_after (0 ∷ 0 ∷ 0 ∷ at_home ∷ []) (false ∷ false ∷ false ∷ true ∷ []) (0 ∷ 0 ∷ 0 ∷ 1 ∷ []) 0 4 0 beside true ≡ spans
unfolding leaves raised_to lowered_to outside home_of away_from last_round round_from
comes = refl

pub gives_way : spans_after numbers lives spans 0 4 0 1 true ≡ 0 ∷ 0 ∷ 3 ∷ 1 ∷ []
unfolding leaves raised_to lowered_to outside home_of away_from last_round round_from
gives_way = refl

pub goes : spans_after numbers lives spans 0 4 0 0 false ≡ 0 ∷ 0 ∷ 0 ∷ 1 ∷ []
unfolding leaves raised_to lowered_to outside home_of away_from last_round round_from
goes = refl

-- where the number stays, nothing is lowered, however far the span reaches; where it goes, that span is lowered to the one at home, and so it is where the mark goes and the number stays
pub stays : spans_after numbers lives (0 ∷ 0 ∷ 0 ∷ 4 ∷ []) 0 4 0 beside true ≡ 0 ∷ 0 ∷ 0 ∷ 4 ∷ []
unfolding leaves raised_to lowered_to outside home_of away_from last_round round_from
stays = refl

pub goes_from_afar : spans_after numbers lives (0 ∷ 0 ∷ 0 ∷ 4 ∷ []) 0 4 0 0 false ≡ 0 ∷ 0 ∷ 0 ∷ 1 ∷ []
unfolding leaves raised_to lowered_to outside home_of away_from last_round round_from
goes_from_afar = refl

pub mark_goes : spans_after numbers lives (0 ∷ 0 ∷ 0 ∷ 4 ∷ []) 0 4 0 beside false ≡ 0 ∷ 0 ∷ 0 ∷ 1 ∷ []
unfolding leaves raised_to lowered_to outside home_of away_from last_round round_from
mark_goes = refl

-- nothing was live at the second place, so nothing leaves it
pub none_was_live : spans_after numbers lives (0 ∷ 0 ∷ 0 ∷ 4 ∷ []) 0 4 1 0 false ≡ 0 ∷ 0 ∷ 0 ∷ 4 ∷ []
unfolding leaves raised_to lowered_to outside home_of away_from last_round round_from
none_was_live = refl

-- The lists of conditions once more, as plain bytes for each market and position, by computation.
use mathlib.Core.Bool.{Bool, true, false, cond, ◌&&◌}
use mathlib.Core.List.{List, [], ◌∷◌}
use mathlib.Core.Path.{◌≡◌, refl, sym, ap, ◌∙◌}
use Prim.Native.Nat.{ℕ, ◌≤◌}
use lib.Dec.{eqb}
use lib.ListN.{get_or-eq_default}
use Rattle.markets.specs.Conditions.{Code, codes_of, member, lists, listed}
use Rattle.markets.specs.declared.Market.{Market}
use Rattle.markets.specs.declared.Market.TheVariants.{Nyse, Arca, American, National, Texas}

-- ---- what a market lists, position by position: `@` is 64, `C` 67, a space 32, `F` 70, `O` 79, `5` 53, `6` 54, `7` 55, `T` 84, `U` 85, `Z` 90, `I` 73, `V` 86
pub record Lists (market : Market) (first second third fourth : List ℕ) : Type 0 where
  pub one : (c : ℕ) → listed market 0 c ≡ member c first
  pub two : (c : ℕ) → listed market 1 c ≡ member c second
  pub three : (c : ℕ) → listed market 2 c ≡ member c third
  pub four : (c : ℕ) → listed market 3 c ≡ member c fourth

pub none_beyond : (market : Market) (position c : ℕ) → 4 ≤ position → listed market position c ≡ false
unfolding listed
none_beyond market position c h = ap (λ (l : List Code). member c (codes_of market l)) (get_or-eq_default lists [] h)

pub record EveryList : Type 0 where
  pub nyse : Lists Nyse (64 ∷ []) (32 ∷ 70 ∷ 79 ∷ 53 ∷ 54 ∷ []) (32 ∷ 84 ∷ 85 ∷ 90 ∷ []) (32 ∷ 73 ∷ [])
  pub arca : Lists Arca (64 ∷ []) (32 ∷ 70 ∷ 79 ∷ 53 ∷ 54 ∷ []) (32 ∷ 84 ∷ 85 ∷ 90 ∷ []) (32 ∷ 73 ∷ [])
  pub american : Lists American (64 ∷ []) (32 ∷ 70 ∷ 79 ∷ 53 ∷ 54 ∷ []) (32 ∷ 84 ∷ 85 ∷ 90 ∷ []) (32 ∷ 73 ∷ [])
  pub national : Lists National (64 ∷ []) (32 ∷ 70 ∷ []) (32 ∷ 84 ∷ 85 ∷ 90 ∷ []) (32 ∷ 73 ∷ [])
  pub texas : Lists Texas (64 ∷ 67 ∷ []) (32 ∷ 70 ∷ 55 ∷ []) (32 ∷ 84 ∷ 85 ∷ 90 ∷ []) (32 ∷ 73 ∷ 86 ∷ [])
  pub no_more : (market : Market) (position c : ℕ) → 4 ≤ position → listed market position c ≡ false

pub every_list : EveryList
unfolding listed
every_list = record {
  nyse = record { one = λ c. refl; two = λ c. refl; three = λ c. refl; four = λ c. refl };
  arca = record { one = λ c. refl; two = λ c. refl; three = λ c. refl; four = λ c. refl };
  american = record { one = λ c. refl; two = λ c. refl; three = λ c. refl; four = λ c. refl };
  national = record { one = λ c. refl; two = λ c. refl; three = λ c. refl; four = λ c. refl };
  texas = record { one = λ c. refl; two = λ c. refl; three = λ c. refl; four = λ c. refl };
  no_more = none_beyond;
}

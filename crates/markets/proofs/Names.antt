-- The numbers of the markets once more, as source 002 prints them, by computation.
use mathlib.Core.Bool.{Bool, true, false, cond}
use mathlib.Core.List.{List, [], ◌∷◌}
use mathlib.Core.Logic.{◌≢◌}
use mathlib.Core.Path.{◌≡◌, refl, ap, ◌∙◌}
use Prim.Native.Nat.{ℕ}
use native.Mathlib.Omega.{arith}
use lib.Dec.{eqb}
use borrow.Author.Tests.{eqb-true, ne_eqb}
use Rattle.markets.specs.Numbers.{market_number, every_market, named_among, named_of, market_in, market_of}
use Rattle.markets.specs.declared.Market.{Market}
use Rattle.markets.specs.declared.Market.TheVariants.{Nyse, Arca, American, National, Texas}
use Rattle.std.specs.Prelude.{Option, None, Some}
use Rattle.std.specs.Option.{ok_or}
use Rattle.std.specs.Result.{result_unwrap_or}
use Rattle.markets.specs.declared.UnknownMarket.{UnknownMarket}

-- each has its number, and no other number names one
pub record EveryName : Type 0 where
  pub nyse : named_of 1 ≡ Some Nyse
  pub arca : named_of 3 ≡ Some Arca
  pub american : named_of 9 ≡ Some American
  pub national : named_of 10 ≡ Some National
  pub texas : named_of 11 ≡ Some Texas
  pub again : (market : Market) → named_of (market_number market) ≡ Some market
  pub only : (n : ℕ) (market : Market) → named_of n ≡ Some market → n ≡ market_number market

named_again : (market : Market) → named_of (market_number market) ≡ Some market
unfolding named_of
named_again Nyse = refl
named_again Arca = refl
named_again American = refl
named_again National = refl
named_again Texas = refl

named_only : (markets : List Market) (n : ℕ) (market : Market) → named_among markets n ≡ Some market → n ≡ market_number market
named_only [] n market e = absurd (let z : ◌≡◌ {A = ℕ} 0 1 = cc in omega arith)
named_only (k ∷ ks) n market e = go (eqb n (market_number k)) refl (named_only ks n market) e
  where
    go : (same : Bool) → eqb n (market_number k) ≡ same → (named_among ks n ≡ Some market → n ≡ market_number market)
        → cond same (Some k) (named_among ks n) ≡ Some market → n ≡ market_number market
    go true q ih p = let is : k ≡ market = cc in eqb-true n (market_number k) q ∙ ap market_number is
    go false q ih p = ih p

pub every_name : EveryName
unfolding named_of
every_name = record { nyse = refl; arca = refl; american = refl; national = refl; texas = refl; again = named_again; only = λ n market. named_only every_market n market }

pub unnamed : (n : ℕ) → n ≢ 1 → n ≢ 3 → n ≢ 9 → n ≢ 10 → n ≢ 11 → named_of n ≡ None
unfolding named_of
unnamed n nyse arca american national texas = simp (ne_eqb n 1 nyse, ne_eqb n 3 arca, ne_eqb n 9 american, ne_eqb n 10 national, ne_eqb n 11 texas)

-- a market that is kept as its number is that market
pub market_kept : (market : Market) → market_of (market_number market) ≡ market
unfolding market_of
market_kept market = ap market_in (named_again market)

-- a number that names none is taken for NYSE's
pub market_or_nyse : (named : Option Market) (unknown : UnknownMarket) → result_unwrap_or (ok_or named unknown) Nyse ≡ market_in named
market_or_nyse (Some market) unknown = refl
market_or_nyse None unknown = refl

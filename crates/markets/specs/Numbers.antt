-- The markets and their numbers.
use Rattle.std.specs.Prelude.{ℕ, Bool, true, false, cond, List, [], ◌∷◌, eqb}
use Rattle.std.specs.Prelude.{Option, None, Some}
use Rattle.markets.specs.declared.Market.{Market}
use Rattle.markets.specs.declared.Market.TheVariants.{Nyse, Arca, American, National, Texas}

-- source 002's Market ID
abbrev pub market_number : Market → ℕ
market_number Nyse = 1
market_number Arca = 3
market_number American = 9
market_number National = 10
market_number Texas = 11

abbrev pub every_market : List Market
every_market = Nyse ∷ Arca ∷ American ∷ National ∷ Texas ∷ []

-- the market of a number, among these
abbrev pub named_among : List Market → ℕ → Option Market
named_among [] n = None
named_among (market ∷ markets) n = cond (eqb n (market_number market)) (Some market) (named_among markets n)

unfoldable pub named_of : ℕ → Option Market
named_of n = named_among every_market n

-- whether a number names one
abbrev pub is_named : Option Market → Bool
is_named (Some m) = true
is_named None = false

-- the market that is kept as a number. A number that names none would stand for NYSE
abbrev pub market_in : Option Market → Market
market_in (Some m) = m
market_in None = Nyse

unfoldable pub market_of : ℕ → Market
market_of n = market_in (named_of n)

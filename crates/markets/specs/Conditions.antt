-- The conditions that source 001 lists for a 103 and a 110, alike: the codes of each position, each with the markets that it is listed for.
use Rattle.std.specs.Prelude.{ℕ, Bool, true, false, cond, List, [], ◌∷◌, eqb, get_or}
use Rattle.markets.specs.declared.Market.{Market}
use Rattle.markets.specs.declared.Market.TheVariants.{Nyse, Arca, American, National, Texas}

-- a code, and the markets that source 001 lists it for
pub record Code : Type 0 where
  pub code : ℕ
  pub markets : Market → Bool

abbrev pub on_texas : Market → Bool
on_texas Nyse = false
on_texas Arca = false
on_texas American = false
on_texas National = false
on_texas Texas = true

abbrev pub on_arca_american_nyse : Market → Bool
on_arca_american_nyse Nyse = true
on_arca_american_nyse Arca = true
on_arca_american_nyse American = true
on_arca_american_nyse National = false
on_arca_american_nyse Texas = false

-- listed for all, for these three, and for Texas alone
abbrev pub everywhere : ℕ → Code
everywhere c = record { code = c; markets = λ market. true }

abbrev pub arca_american_nyse : ℕ → Code
arca_american_nyse c = record { code = c; markets = on_arca_american_nyse }

abbrev pub texas : ℕ → Code
texas c = record { code = c; markets = on_texas }

-- settlement: `@` regular sale, `C` cash
abbrev pub settlement : List Code
settlement = everywhere 64 ∷ texas 67 ∷ []

-- trade through exemption: a space, `F` intermarket sweep, `O` opening, `5` reopening, `6` closing, `7` qualified contingent
abbrev pub exemption : List Code
exemption = everywhere 32 ∷ everywhere 70 ∷ arca_american_nyse 79 ∷ arca_american_nyse 53 ∷ arca_american_nyse 54 ∷ texas 55 ∷ []

-- extended hours: a space, `T` extended hours, `U` extended hours sold, `Z` sold
abbrev pub hours : List Code
hours = everywhere 32 ∷ everywhere 84 ∷ everywhere 85 ∷ everywhere 90 ∷ []

-- required detail: a space, `I` odd lot, `V` contingent
abbrev pub detail : List Code
detail = everywhere 32 ∷ everywhere 73 ∷ texas 86 ∷ []

-- the codes of a list that a market has
abbrev pub codes_of : Market → List Code → List ℕ
codes_of market [] = []
codes_of market (k ∷ ks) = cond (k.markets market) (k.code ∷ codes_of market ks) (codes_of market ks)

abbrev pub member : ℕ → List ℕ → Bool
member c [] = false
member c (x ∷ xs) = cond (eqb c x) true (member c xs)

-- the four positions, the first one 0; beyond them nothing is listed
abbrev pub lists : List (List Code)
lists = settlement ∷ exemption ∷ hours ∷ detail ∷ []

-- does the market list the code at this position?
unfoldable pub listed : Market → ℕ → ℕ → Bool
listed market position c = member c (codes_of market (get_or lists position []))

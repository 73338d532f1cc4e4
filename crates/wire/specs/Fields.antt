-- The fields of a message, by its layout, and the bad ones: document 01's, and conditions that its market does not list.
use Rattle.std.specs.Prelude.{ℕ, ◌+◌, ◌-◌, ◌≤◌, ◌≡◌, List, [], ◌∷◌, Bool, true, false, cond, not, eqb, ltb, leb, take, get_or, Option, Some, None}
use Rattle.std.proofs.Math.Seq.{slice}
use Rattle.wire.specs.Outcome.{Answered, done, only, bad_at}
use Rattle.wire.specs.Bytes.{value_at, plain_room, IsField}
use Rattle.markets.specs.Conditions.{listed}
use Rattle.wire.specs.declared.table.Layout.{Layout}
use Rattle.wire.specs.declared.fields.Fields.{Fields}
use Rattle.markets.specs.declared.Market.{Market}

-- how many conditions a type's array holds, one a byte
abbrev pub conditions_in : Bool → ℕ
conditions_in false = 0
conditions_in true = 4

-- The fields follow one another, and none is wider than its type; the conditions lie within the array.
pub record Sane (l : Layout) : Type 0 where
  pub form₀ : 4 ≤ l.form
  pub form₁ : l.form ≤ 8
  pub order₀ : l.order ≡ l.form + 12
  pub fresh₀ : l.order ≤ l.fresh
  pub fresh₁ : l.fresh ≤ l.order + 8
  pub id₀ : l.fresh ≤ l.id
  pub id₁ : l.id ≤ l.fresh + 8
  pub price₀ : l.id ≤ l.price
  pub price₁ : l.price ≤ l.id + 4
  pub volume₀ : l.price ≤ l.volume
  pub volume₁ : l.volume ≤ l.price + 4
  pub flag₀ : l.volume ≤ l.flag
  pub flag₁ : l.flag ≤ l.volume + 4
  pub side₀ : l.flag ≤ l.side
  pub side₁ : l.side ≤ l.flag + 1
  pub letter₀ : l.side ≤ l.letter
  pub letter₁ : l.letter ≤ l.side + 1
  pub gap₀ : l.letter ≤ l.gap
  pub gap₁ : l.gap ≤ l.letter + 1
  pub plain₀ : l.gap ≤ l.plain
  pub plain₁ : l.plain ≤ l.gap + 1
  pub pad₀ : l.plain ≤ l.pad
  pub pad₁ : l.pad ≤ l.plain + plain_room
  pub coded₀ : l.plain + conditions_in l.coded ≤ l.pad
  pub size₀ : l.pad ≤ l.size
  pub size₁ : l.size ≤ l.pad + 1

-- Each number is there at its full width, or it is not there.
pub record Whole (l : Layout) : Type 0 where
  pub seconds : IsField 4 (l.form - 4)
  pub order : IsField 8 (l.fresh - l.order)
  pub fresh : IsField 8 (l.id - l.fresh)
  pub id : IsField 4 (l.price - l.id)
  pub price : IsField 4 (l.volume - l.price)
  pub volume : IsField 4 (l.flag - l.volume)
  pub flag : IsField 1 (l.side - l.flag)
  pub side : IsField 1 (l.letter - l.side)
  pub letter : IsField 1 (l.gap - l.letter)
  pub gap : IsField 1 (l.plain - l.gap)
  pub pad : IsField 1 (l.size - l.pad)

-- what stands in them; one that the type lacks reads 0
abbrev pub fields_at : List ℕ → Layout → Fields
fields_at s l = record {
  seconds = value_at s 4 l.form;
  nanos = value_at s l.form (l.form + 4);
  index = value_at s (l.form + 4) (l.form + 8);
  number = value_at s (l.form + 8) l.order;
  order = value_at s l.order l.fresh;
  fresh = value_at s l.fresh l.id;
  id = value_at s l.id l.price;
  price = value_at s l.price l.volume;
  volume = value_at s l.volume l.flag;
  flag = value_at s l.flag l.side;
  side = value_at s l.side l.letter;
  letter = value_at s l.letter l.gap;
}

-- the bytes of its array: of a message that is read, and of one that is made with an array of its own beside it
abbrev pub array_at : List ℕ → Layout → List ℕ
array_at s l = slice l.plain l.pad s

abbrev pub array_of : Layout → List ℕ → List ℕ
array_of l plain = take (l.pad - l.plain) plain

-- ---- bad fields

-- a second has so many nanoseconds
abbrev pub nanos_each : ℕ
nanos_each = 1000000000

-- the letters of the sides, `B` and `S`
abbrev pub buy_letter : ℕ
buy_letter = 66

abbrev pub sell_letter : ℕ
sell_letter = 83

abbrev pub nanos_bad : ℕ → Bool
nanos_bad n = leb nanos_each n

-- only where the type's volume must be positive
abbrev pub volume_bad : Bool → ℕ → Bool
volume_bad false v = false
volume_bad true v = eqb v 0

-- position or printable; one that the type lacks is 0
abbrev pub flag_bad : ℕ → Bool
flag_bad x = ltb 1 x

-- only where the type has a side
abbrev pub side_bad : Bool → ℕ → Bool
side_bad false x = false
side_bad true x = cond (eqb x buy_letter) false (not (eqb x sell_letter))

-- a field that may be bad: where it starts in its message, and whether it is
pub record Check : Type 0 where
  pub at : ℕ
  pub bad : Bool

-- a condition is bad where its market does not list it
abbrev pub condition_at : ℕ → Market → ℕ → ℕ → Check
condition_at at market position c = record { at = at; bad = not (listed market position c) }

-- the four of them, only where the type's array holds conditions
abbrev pub conditions_at : Bool → ℕ → Market → List ℕ → List Check
conditions_at false at market array = []
conditions_at true at market array =
    condition_at at market 0 (get_or array 0 0)
    ∷ condition_at (at + 1) market 1 (get_or array 1 0)
    ∷ condition_at (at + 2) market 2 (get_or array 2 0)
    ∷ condition_at (at + 3) market 3 (get_or array 3 0)
    ∷ []

-- nanoseconds, volume, flag, side and conditions, in the order of their offsets
abbrev pub checks_of : Market → Layout → Fields → List ℕ → List Check
checks_of market l f array =
    record { at = l.form; bad = nanos_bad f.nanos }
    ∷ record { at = l.volume; bad = volume_bad l.positive f.volume }
    ∷ record { at = l.flag; bad = flag_bad f.flag }
    ∷ record { at = l.side; bad = side_bad (ltb l.side l.letter) f.side }
    ∷ conditions_at l.coded l.plain market array

-- the first bad one
unfoldable pub first_bad : List Check → Option ℕ
first_bad [] = None
first_bad (c ∷ cs) = cond c.bad (Some c.at) (first_bad cs)

unfoldable pub fault_of : Market → Layout → Fields → List ℕ → Option ℕ
fault_of market l f array = first_bad (checks_of market l f array)

-- document 01's number of each case, with the offset
abbrev pub fault_as : Option ℕ → Answered (Unit {0})
fault_as None = only (done tt)
fault_as (Some n) = bad_at n

-- ---- the numbers of a message as the writer lays them out

-- where they end
abbrev pub ends_of : Layout → List ℕ
ends_of l =
    2 ∷ 4 ∷ l.form ∷ (l.form + 4) ∷ (l.form + 8) ∷ l.order ∷ l.fresh ∷ l.id ∷ l.price ∷ l.volume ∷ l.flag ∷ l.side ∷ l.letter ∷ l.gap ∷ l.plain ∷ []

-- Msg Size, Msg Type, the fields, and zero in the gap
abbrev pub values_of : ℕ → ℕ → Fields → List ℕ
values_of size type f =
    size ∷ type ∷ f.seconds ∷ f.nanos ∷ f.index ∷ f.number ∷ f.order ∷ f.fresh ∷ f.id ∷ f.price ∷ f.volume ∷ f.flag ∷ f.side ∷ f.letter ∷ 0 ∷ []

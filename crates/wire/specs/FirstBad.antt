-- Where the first bad field stands (M-111), said without the definition that finds it.
use Rattle.std.specs.Prelude.{ℕ, ◌≤◌, ◌<◌, true, false, List, [], ◌∷◌, ◌⊎◌, ◌≢◌, ◌≡◌, Some}
use Rattle.wire.specs.Outcome.{done}
use Rattle.wire.specs.Table.{shape_of}
use Rattle.wire.specs.Fields.{Check, fields_at, array_at, array_of, checks_of}
use Rattle.wire.specs.Message.{type_of, fields_of}
use Rattle.wire.specs.Reading.{least_size, msg_type, reach_of}
use Rattle.wire.specs.declared.table.Layout.{Layout}
use Rattle.wire.specs.declared.fields.Fields.{Fields}
use Rattle.wire.specs.declared.Message.{Message}
use Rattle.markets.specs.declared.Market.{Market}

-- a field at n is bad
abbrev pub BadAt : ℕ → List Check → Type 0
BadAt n [] = ⊥
BadAt n (c ∷ cs) = ((c.at ≡ n) × (c.bad ≡ true)) ⊎ BadAt n cs

-- every field before n is good
abbrev pub GoodBefore : ℕ → List Check → Type 0
GoodBefore n [] = Unit {0}
GoodBefore n (c ∷ cs) = (c.at < n → c.bad ≡ false) × GoodBefore n cs

-- the first bad field is the one at n, which is behind Msg Size and Msg Type and within the message
pub record FirstBad (market : Market) (l : Layout) (f : Fields) (array : List ℕ) (n : ℕ) : Type 0 where
  pub bad : BadAt n (checks_of market l f array)
  pub before : GoodBefore n (checks_of market l f array)
  pub behind_type : least_size ≤ n
  pub within : n < l.size

-- of bytes: a message of a known type is all there, of the type's size
pub record FirstBadIn (market : Market) (s : List ℕ) (n : ℕ) : Type 0 where
  pub layout : Layout
  pub known : shape_of (msg_type s) ≡ Some layout
  pub there : reach_of s ≡ done layout.size
  pub first : FirstBad market layout (fields_at s layout) (array_at s layout) n

-- of a typed message, with its array beside it
pub record FirstBadOf (market : Market) (m : Message) (plain : List ℕ) (n : ℕ) : Type 0 where
  pub layout : Layout
  pub known : shape_of (type_of m) ≡ Some layout
  pub first : FirstBad market layout (fields_of m) (array_of layout plain) n

-- the offset beside an answer: with 4 that of the first bad field, and where there is one, 4 is answered; with any other answer 0
pub record Locates (First : ℕ → Type 0) (number offset : ℕ) : Type 0 where
  pub bad_field : number ≡ 4 → First offset
  pub answered : (n : ℕ) → First n → (number ≡ 4) × (offset ≡ n)
  pub no_field : number ≢ 4 → offset ≡ 0

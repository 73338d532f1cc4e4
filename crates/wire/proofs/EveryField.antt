-- The bad fields type by type, with document 01's own numbers: the first bad field of a message is the first bad one of the fields that its type has, where the table
-- has them. By computation, for any values of the fields and any array beside it: of a 103 and a 110 its first four bytes are conditions, and of no other type is it tested.
use mathlib.Core.Bool.{false, cond, not}
use mathlib.Core.List.{List, [], ◌∷◌}
use mathlib.Core.Path.{◌≡◌, refl}
use Prim.Native.Nat.{ℕ}
use lib.Dec.{eqb, ltb, leb}
use Rattle.markets.specs.Conditions.{listed}
use Rattle.wire.specs.Table.{shape_of}
use Rattle.wire.specs.Fields.{Check, first_bad, fault_of}
use Rattle.wire.specs.Message.{fault_in}
use Rattle.wire.specs.declared.Head.{Head}
use Rattle.markets.specs.declared.Market.{Market}
use Rattle.wire.specs.declared.Message.TheVariants.{Add, Modify, Delete, Execute, Replace, Imbalance, NonDisplayed, Cross, TradeCancel, CrossCorrection, Retail, Clear, Status}

abbrev nanos_at : ℕ → Head → Check
nanos_at at h = record { at = at; bad = leb 1000000000 h.nanos }

abbrev volume_at : ℕ → ℕ → Check
volume_at at v = record { at = at; bad = eqb v 0 }

-- position or printable
abbrev flag_at : ℕ → ℕ → Check
flag_at at x = record { at = at; bad = ltb 1 x }

-- `B` is 66 and `S` is 83
abbrev side_at : ℕ → ℕ → Check
side_at at x = record { at = at; bad = cond (eqb x 66) false (not (eqb x 83)) }

-- a condition, by its position
abbrev code_at : ℕ → Market → ℕ → ℕ → Check
code_at at market position c = record { at = at; bad = not (listed market position c) }

pub record EveryField (market : Market) : Type 0 where
  pub type_100 : (h : Head) (order price volume side : ℕ) (plain : List ℕ) → fault_in market (Add h order price volume side) plain ≡ first_bad (nanos_at 4 h ∷ volume_at 28 volume ∷ side_at 32 side ∷ [])
  pub type_101 : (h : Head) (order price volume position side : ℕ) (plain : List ℕ) → fault_in market (Modify h order price volume position side) plain ≡ first_bad (nanos_at 4 h ∷ volume_at 28 volume ∷ flag_at 32 position ∷ side_at 33 side ∷ [])
  pub type_102 : (h : Head) (order : ℕ) (plain : List ℕ) → fault_in market (Delete h order) plain ≡ first_bad (nanos_at 4 h ∷ [])
  pub type_103 : (h : Head) (order trade price volume printable a b c d : ℕ) (rest : List ℕ) → fault_in market (Execute h order trade price volume printable) (a ∷ b ∷ c ∷ d ∷ rest) ≡ first_bad (nanos_at 4 h ∷ volume_at 32 volume ∷ flag_at 36 printable ∷ code_at 38 market 0 a ∷ code_at 39 market 1 b ∷ code_at 40 market 2 c ∷ code_at 41 market 3 d ∷ [])
  pub type_104 : (h : Head) (order new_order price volume side : ℕ) (plain : List ℕ) → fault_in market (Replace h order new_order price volume side) plain ≡ first_bad (nanos_at 4 h ∷ volume_at 36 volume ∷ side_at 40 side ∷ [])
  pub type_105 : (h : Head) (seconds : ℕ) (plain : List ℕ) → fault_in market (Imbalance h seconds) plain ≡ first_bad (nanos_at 8 h ∷ [])
  pub type_110 : (h : Head) (trade price volume printable a b c d : ℕ) (rest : List ℕ) → fault_in market (NonDisplayed h trade price volume printable) (a ∷ b ∷ c ∷ d ∷ rest) ≡ first_bad (nanos_at 4 h ∷ volume_at 24 volume ∷ flag_at 28 printable ∷ code_at 29 market 0 a ∷ code_at 30 market 1 b ∷ code_at 31 market 2 c ∷ code_at 32 market 3 d ∷ [])
  pub type_111 : (h : Head) (cross price volume class : ℕ) (plain : List ℕ) → fault_in market (Cross h cross price volume class) plain ≡ first_bad (nanos_at 4 h ∷ [])
  pub type_112 : (h : Head) (trade : ℕ) (plain : List ℕ) → fault_in market (TradeCancel h trade) plain ≡ first_bad (nanos_at 4 h ∷ [])
  pub type_113 : (h : Head) (cross volume : ℕ) (plain : List ℕ) → fault_in market (CrossCorrection h cross volume) plain ≡ first_bad (nanos_at 4 h ∷ [])
  pub type_114 : (h : Head) (indicator : ℕ) (plain : List ℕ) → fault_in market (Retail h indicator) plain ≡ first_bad (nanos_at 4 h ∷ [])
  pub type_32 : (h : Head) (seconds : ℕ) (plain : List ℕ) → fault_in market (Clear h seconds) plain ≡ first_bad (nanos_at 8 h ∷ [])
  pub type_34 : (h : Head) (seconds : ℕ) (plain : List ℕ) → fault_in market (Status h seconds) plain ≡ first_bad (nanos_at 8 h ∷ [])

pub every_field : (market : Market) → EveryField market
unfolding shape_of fault_in fault_of first_bad
every_field market = record {
  type_100 = λ h order price volume side plain. refl;
  type_101 = λ h order price volume position side plain. refl;
  type_102 = λ h order plain. refl;
  type_103 = λ h order trade price volume printable a b c d rest. refl;
  type_104 = λ h order new_order price volume side plain. refl;
  type_105 = λ h seconds plain. refl;
  type_110 = λ h trade price volume printable a b c d rest. refl;
  type_111 = λ h cross price volume class plain. refl;
  type_112 = λ h trade plain. refl;
  type_113 = λ h cross volume plain. refl;
  type_114 = λ h indicator plain. refl;
  type_32 = λ h seconds plain. refl;
  type_34 = λ h seconds plain. refl;
}

-- What a call answers: done, with its value, or refused, with document 01's number; and with a bad field where it stands (M-111).
use Rattle.std.specs.Prelude.{ℕ, Result, Ok, Err}

pub data Outcome (A : Type 0) : Type 0 where
  done : A → Outcome A
  refused : ℕ → Outcome A

-- document 01's number, in which 0 is done
abbrev pub number_of : {A : Type 0} → Outcome A → ℕ
number_of (done a) = 0
number_of (refused n) = n

-- an outcome, and beside a 4 the offset of the first bad field in its message; beside any other 0, where no field stands that may be bad
pub record Answered (A : Type 0) : Type 0 where
  pub outcome : Outcome A
  pub offset : ℕ

-- an outcome without an offset
abbrev pub only : {A : Type 0} → Outcome A → Answered A
only x = record { outcome = x; offset = 0 }

-- the first bad field at n
abbrev pub bad_at : {A : Type 0} → ℕ → Answered A
bad_at n = record { outcome = refused 4; offset = n }

-- what a result tells: 0 where the call is done, and what the refusal tells where it is refused
abbrev pub told_by : {A E : Type 0} → (E → ℕ) → Result A E → ℕ
told_by tells (Ok a) = 0
told_by tells (Err e) = tells e

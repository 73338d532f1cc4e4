-- What a part leaves over comes first in the next: document 01, "What the bureau's reader does".
use Rattle.std.specs.Prelude.{ℕ, ◌-◌, List, ◌++◌, Bool, true, false, length, drop, ltb}
use Rattle.std.proofs.Math.Seq.{slice}

-- what a carry answers, and what it leaves in the buffer
pub record Carry : Type 0 where
  pub count : ℕ
  pub buffer : List ℕ

abbrev pub carried : ℕ → List ℕ → Carry
carried n s = record { count = n; buffer = s }

-- does the range end before it starts, does it end beyond the buffer?
unfoldable pub carry_by : Bool → Bool → List ℕ → ℕ → ℕ → Carry
carry_by true beyond s from to = carried 0 s
carry_by false true s from to = carried 0 s
carry_by false false s from to = carried (to - from) (slice from to s ++ drop (to - from) s)

-- the bytes from `from` up to `to` at the front, and those behind them as they were
unfoldable pub carry_of : List ℕ → ℕ → ℕ → Carry
carry_of s from to = carry_by (ltb to from) (ltb (length s) to) s from to

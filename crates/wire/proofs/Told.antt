-- The number, the offset and the count that a caller is told of a result are those of its outcome.
use Rattle.std.specs.Prelude.{Result, Ok, Err}
use Rattle.std.specs.Result.{result_unwrap_or}
use mathlib.Core.Path.{◌≡◌, refl}
use Prim.Native.Nat.{ℕ}
use Rattle.wire.specs.Outcome.{number_of, told_by}
use Rattle.wire.specs.Reading.{answered_as, decoded_as}
use Rattle.wire.specs.Writing.{wrote_as, count_of}
use Rattle.wire.specs.declared.Decoded.{Decoded}
use Rattle.wire.specs.declared.ReadError.{ReadError}
use Rattle.wire.specs.declared.WriteError.{WriteError}

-- of reading
pub number_read : (d : Result Decoded ReadError) → told_by (λ e. number_of (answered_as (Err e)).outcome) d ≡ number_of (decoded_as d).outcome
number_read (Ok d) = refl
number_read (Err e) = refl

pub offset_read : (d : Result Decoded ReadError) → told_by (λ e. (answered_as (Err e)).offset) d ≡ (decoded_as d).offset
offset_read (Ok d) = refl
offset_read (Err e) = refl

-- and of writing
pub number_written : (w : Result ℕ WriteError) → told_by (λ e. number_of (wrote_as (Err e)).outcome) w ≡ number_of (wrote_as w).outcome
number_written (Ok n) = refl
number_written (Err e) = refl

pub offset_written : (w : Result ℕ WriteError) → told_by (λ e. (wrote_as (Err e)).offset) w ≡ (wrote_as w).offset
offset_written (Ok n) = refl
offset_written (Err e) = refl

pub count_written : (w : Result ℕ WriteError) → result_unwrap_or w 0 ≡ count_of (wrote_as w).outcome
count_written (Ok n) = refl
count_written (Err WriteError.BadType) = refl
count_written (Err (WriteError.BadField n)) = refl
count_written (Err WriteError.NoRoom) = refl

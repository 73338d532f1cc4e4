-- The number, the offset and the count that a caller is told of a line are those of its outcome.
use Rattle.std.specs.Prelude.{Result, Ok, Err}
use Rattle.std.specs.Result.{result_unwrap_or}
use mathlib.Core.Path.{◌≡◌, refl}
use Prim.Native.Nat.{ℕ}
use Rattle.wire.specs.Outcome.{number_of, told_by}
use Rattle.wire.specs.Writing.{count_of}
use Rattle.page.specs.Printing.{printed_as}
use Rattle.page.specs.declared.LineError.{LineError}

pub number_printed : (p : Result ℕ LineError) → told_by (λ e. number_of (printed_as (Err e)).outcome) p ≡ number_of (printed_as p).outcome
number_printed (Ok n) = refl
number_printed (Err e) = refl

pub offset_printed : (p : Result ℕ LineError) → told_by (λ e. (printed_as (Err e)).offset) p ≡ (printed_as p).offset
offset_printed (Ok n) = refl
offset_printed (Err e) = refl

pub count_printed : (p : Result ℕ LineError) → result_unwrap_or p 0 ≡ count_of (printed_as p).outcome
count_printed (Ok n) = refl
count_printed (Err LineError.BadType) = refl
count_printed (Err (LineError.BadField n)) = refl
count_printed (Err LineError.NoSymbol) = refl
count_printed (Err LineError.BadSecond) = refl
count_printed (Err LineError.NoRoom) = refl

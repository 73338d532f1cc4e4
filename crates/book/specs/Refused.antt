-- Why a message that is all there is not done, in document 01's numbers: 1 to 4 of reading, 5 to 8 of its turn, 9 and 10 of the orders.
use Rattle.std.specs.Prelude.{ℕ, Err}
use Rattle.wire.specs.Outcome.{number_of}
use Rattle.wire.specs.Reading.{answered_as}
use Rattle.symbols.specs.Answers.{turn_number}
use Rattle.orders.specs.Promises.{unfit_number}
use Rattle.book.specs.declared.refused.Refused.{Refused}
use Rattle.book.specs.declared.refused.Refused.TheVariants.{Unread, Untimely, Unfitting}

abbrev pub refused_number : Refused → ℕ
refused_number (Unread e) = number_of (answered_as (Err e)).outcome
refused_number (Untimely e) = turn_number e
refused_number (Unfitting e) = unfit_number e

-- the offset of the first bad field; only a message that is not read has one
abbrev pub refused_offset : Refused → ℕ
refused_offset (Unread e) = (answered_as (Err e)).offset
refused_offset (Untimely e) = 0
refused_offset (Unfitting e) = 0

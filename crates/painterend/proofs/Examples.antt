-- The printout of an empty file and of single bad messages, by computation.
use mathlib.Core.List.{List, [], ◌∷◌}
use mathlib.Core.Path.{◌≡◌, refl}
use Prim.Native.Nat.{ℕ}
use Rattle.places.specs.Places.{first_where, tabulate, fold, sum_by}
use Rattle.wire.specs.Bytes.{value}
use Rattle.markets.specs.Conditions.{listed}
use Rattle.wire.specs.Table.{shape_of}
use Rattle.wire.specs.Fields.{first_bad, fault_of}
use Rattle.wire.specs.Reading.{reach_by, reach_of, read_by, read_body, read_sized, read_shape, read_typed, read_reached, read_of}
use Rattle.symbols.specs.State.{place_of, found_in, vacancy_of, padded_name}
use Rattle.symbols.specs.Registering.{name_bad, registered, told_of}
use Rattle.orders.specs.Levels.{level_of}
use Rattle.book.specs.Registering.{told_in}
use Rattle.book.specs.Quote.{quote_of}
use Rattle.book.specs.Step.{step_of}
use Rattle.book.specs.Walk.{walk_for, walk_of, steps_of}
use Rattle.columns.specs.Text.{digits_by, digits}
use Rattle.columns.specs.Columns.{rendered}
use Rattle.page.specs.Marked.{ascii}
use Rattle.page.specs.Printout.{passed_text, texts_of, end_text, quote_text, closing, printed_of}
use Rattle.painterend.specs.Program.{start_view, printout}

pub empty_file : printout [] ≡ ascii "E,1\nQ,,,,\n"
unfolding printout printed_of texts_of closing end_text quote_text rendered digits_by digits walk_for walk_of steps_of reach_by reach_of start_view registered name_bad place_of found_in vacancy_of padded_name tabulate first_where told_in told_of quote_of level_of fold sum_by
empty_file = refl

-- an add of 200 shares whose side, at 32, is neither letter
abbrev bad_side : List ℕ
bad_side = 39 ∷ 0 ∷ 100 ∷ 0 ∷ 125 ∷ 0 ∷ 0 ∷ 0 ∷ 7 ∷ 0 ∷ 0 ∷ 0 ∷ 1 ∷ 0 ∷ 0 ∷ 0 ∷ 9 ∷ 0 ∷ 0 ∷ 0 ∷ 0 ∷ 0 ∷ 0 ∷ 0 ∷ 5 ∷ 0 ∷ 0 ∷ 0 ∷ 200 ∷ 0 ∷ 0 ∷ 0 ∷ 0 ∷ 70 ∷ 73 ∷ 82 ∷ 77 ∷ 49 ∷ 0 ∷ []

pub bad_side_file : printout bad_side ≡ ascii "R,4,1,32\nE,1\nQ,,,,\n"
unfolding printout printed_of passed_text texts_of closing end_text quote_text rendered digits_by digits value shape_of first_bad fault_of reach_by reach_of read_by read_body read_sized read_shape read_typed read_reached read_of step_of walk_for walk_of steps_of start_view registered name_bad place_of found_in vacancy_of padded_name tabulate first_where told_in told_of quote_of level_of fold sum_by
bad_side_file = refl

-- an execution in cash: of its conditions, from 38 on, Texas alone lists the first one, and the program's market is NYSE
abbrev in_cash : List ℕ
in_cash = 42 ∷ 0 ∷ 103 ∷ 0 ∷ 125 ∷ 0 ∷ 0 ∷ 0 ∷ 7 ∷ 0 ∷ 0 ∷ 0 ∷ 1 ∷ 0 ∷ 0 ∷ 0 ∷ 9 ∷ 0 ∷ 0 ∷ 0 ∷ 0 ∷ 0 ∷ 0 ∷ 0 ∷ 3 ∷ 0 ∷ 0 ∷ 0 ∷ 5 ∷ 0 ∷ 0 ∷ 0 ∷ 200 ∷ 0 ∷ 0 ∷ 0 ∷ 1 ∷ 0 ∷ 67 ∷ 32 ∷ 32 ∷ 32 ∷ []

pub cash_file : printout in_cash ≡ ascii "R,4,1,38\nE,1\nQ,,,,\n"
unfolding listed printout printed_of passed_text texts_of closing end_text quote_text rendered digits_by digits value shape_of first_bad fault_of reach_by reach_of read_by read_body read_sized read_shape read_typed read_reached read_of step_of walk_for walk_of steps_of start_view registered name_bad place_of found_in vacancy_of padded_name tabulate first_where told_in told_of quote_of level_of fold sum_by
cash_file = refl

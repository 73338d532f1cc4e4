-- What the calls on a lent book promise: what the calls by value do, with the book as it came in, the bytes from their front on, and the book as it is left.
use Rattle.std.specs.Prelude.{List, ℕ}
use Rattle.book.specs.Walk.{Moves, Runs}
use Rattle.book.specs.declared.Book.{Book}
use Rattle.book.specs.declared.walk.Moved.{Moved}
use Rattle.book.specs.declared.walk.Ran.{Ran}
use Rattle.host.specs.declared.lent.Passed.{Passed}
use Rattle.host.specs.declared.lent.Ended.{Ended}

-- what is told of a message and of a run, apart from the next book
abbrev pub passed_of : Moved → Passed
passed_of m = record { at = m.at; answer = m.answer; offset = m.offset; stops = m.stops }

abbrev pub ended_of : Ran → Ended
ended_of r = record { at = r.at; answer = r.answer }

abbrev pub MovedTo : Book → List ℕ → Book → Passed → Type 0
MovedTo b s after r = Moves b s 0 (record { book = after; at = r.at; answer = r.answer; offset = r.offset; stops = r.stops })

abbrev pub RanTo : Book → List ℕ → Book → Ended → Type 0
RanTo b s after r = Runs b s 0 (record { book = after; at = r.at; answer = r.answer })

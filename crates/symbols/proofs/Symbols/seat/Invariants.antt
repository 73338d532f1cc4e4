-- From the back: after each place, the seat of the first ticket of the index from there on.
use Rattle.std.specs.Prelude.{ℕ}
use Rattle.places.specs.Places.{symbols}
use Rattle.places.proofs.Ticketing.{Back}
use Rattle.symbols.specs.Answers.{Sits}
use Rattle.symbols.proofs.Symbols.seat.Given as goal

abbrev pub invariant-loop-j : goal.invariant-loop-j
invariant-loop-j l = (r : ℕ) × Back l.self.tickets 0 symbols l.ticket l.j r × Sits l.seat r

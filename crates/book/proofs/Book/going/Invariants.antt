-- The state stands in place: what is left of the walk from here gives what the walk from the start gives.
use Prim.Native.Nat.{◌-◌}
use lib.ListN.{length}
use Rattle.book.proofs.Walking.{Left}
use Rattle.book.proofs.Book.going.Given as goal

abbrev pub invariant-loop-size : goal.invariant-loop-size
invariant-loop-size l = Left l.s l.initial.here l.most l.initial.notes l.initial.self l.here l.count l.notes l.self

abbrev pub decreases-loop-size : goal.decreases-loop-size
decreases-loop-size l = length l.s - l.here

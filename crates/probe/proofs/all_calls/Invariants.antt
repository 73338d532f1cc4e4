-- A call takes at least its letter of what is left.
use Rattle.std.proofs.Common.{length}
use Rattle.probe.proofs.all_calls.Given as goal

abbrev pub decreases-loop-letter : goal.decreases-loop-letter
decreases-loop-letter g l = length l.rest

-- A call takes at least its letter of what is left.
use Rattle.std.proofs.Common.{length}
use Rattle.vectors.proofs.all_calls.Given as goal

abbrev pub decreases-loop-rest : goal.decreases-loop-rest
decreases-loop-rest g l = length l.rest

-- What is left to write stands behind what was written.
use Rattle.painterend.proofs.Passed.{Behind}
use Rattle.painterend.proofs.output.put.Given as goal

abbrev pub invariant-loop : goal.invariant-loop
invariant-loop g l = Behind l.text l.rest (g.P.Write.contents l.initial.paper) (g.P.Write.contents l.paper)

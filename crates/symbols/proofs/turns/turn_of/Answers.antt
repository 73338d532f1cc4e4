-- The turn is tested on where the place's symbol stands.
use Rattle.symbols.specs.Turns.{turn_at}
use Rattle.symbols.proofs.turns.turn_of.Goals as goal

pub returns-then-p : goal.returns-then-p
unfolding turn_at
returns-then-p c = rw c.if-p.true c.turn.ensures

pub returns-else-p : goal.returns-else-p
unfolding turn_at
returns-else-p c = rw c.if-p.false

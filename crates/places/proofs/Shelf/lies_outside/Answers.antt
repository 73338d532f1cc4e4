-- Counted from the start of the shelf, so that no sum wraps.
use Rattle.places.proofs.Rounds.{outside_of_none, outside_by_rest}
use Rattle.places.proofs.Shelf.lies_outside.Goals as goal

pub returns-then-n-eq0 : goal.returns-then-n-eq0
returns-then-n-eq0 c = outside_of_none _ _ _ _ c.from-n.ensures c.then-n-eq0.either

pub returns : goal.returns
returns c = outside_by_rest _ _ _ _ c.from-n.ensures c.if-n-eq0.false c.if-length-self.false

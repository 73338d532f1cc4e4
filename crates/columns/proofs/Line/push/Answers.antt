-- By whether there is room: the byte is the last one held, or nothing changes.
use borrow.Author.Rules.{rules}
use Rattle.columns.proofs.Holding.{stays, stored, grows}
use Rattle.columns.proofs.Line.push.Goals as goal

pub returns-then-self-lt-ROOM : goal.returns-then-self-lt-ROOM
returns-then-self-lt-ROOM c = rw (← c.self.view_is) (stored c.self.inside.bytes c.self.inside.len c.args.b (search rules) c.if-self-lt-ROOM.true)

pub returns-else-self-lt-ROOM : goal.returns-else-self-lt-ROOM
returns-else-self-lt-ROOM c = rw (← c.self.view_is) (stays c.self.inside.bytes c.self.inside.len c.args.b (search rules) c.if-self-lt-ROOM.false)

pub invariant_of-self : goal.invariant_of-self
invariant_of-self c = grows c.self.inside.bytes c.self.inside.len c.args.b c.if-self-lt-ROOM.true c.self.invariant

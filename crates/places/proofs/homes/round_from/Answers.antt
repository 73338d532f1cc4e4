-- Past the last place it goes on with the first.
use borrow.Author.Tests.{lt-ltb, le-ltb}
use Rattle.places.specs.Homes.{round_from}
use borrow.Author.Rules.{rules}
use Rattle.places.proofs.homes.round_from.Goals as goal

pub returns-then-i-n : goal.returns-then-i-n
unfolding round_from
returns-then-i-n c = (rw (lt-ltb _ _ c.if-i-n.true), search rules)

pub returns-else-i-n : goal.returns-else-i-n
unfolding round_from
returns-else-i-n c = (rw (le-ltb _ _ c.if-i-n.false), search rules)

-- Before the home the way goes round.
use borrow.Author.Tests.{le-leb, lt-leb}
use Rattle.places.specs.Homes.{away_from}
use borrow.Author.Rules.{rules}
use Rattle.places.proofs.homes.away_from.Goals as goal

pub returns-then-home-i : goal.returns-then-home-i
unfolding away_from
returns-then-home-i c = (rw (le-leb _ _ c.if-home-i.true), search rules)

pub returns-else-home-i : goal.returns-else-home-i
unfolding away_from
returns-else-home-i c = (rw (lt-leb _ _ c.if-home-i.false), search rules)

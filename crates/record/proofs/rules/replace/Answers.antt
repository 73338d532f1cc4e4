-- What the search tells is what the rule asks.
use borrow.Author.Rules.{rules}
use Rattle.record.proofs.Finding.{unknown, one_replaced}
use Rattle.record.proofs.rules.replace.Goals as goal

pub returns-in_default : goal.returns-in_default
returns-in_default g c = unknown g.T.Kept.number g.T.Kept.live g.T.Kept.empty g.met.T.Kept.dead _ _ _ _ (search rules)

pub returns : goal.returns
returns g c = rw c.ticket.ensures (one_replaced g.T.Kept.number g.T.Kept.live g.T.Kept.empty g.met.T.Kept.dead _ _ _ _ c.requires.same _ (search rules) (search rules))

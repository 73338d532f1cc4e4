-- What the two searches tell is what the rule asks.
use borrow.Author.Rules.{rules}
use Rattle.record.proofs.Finding.{full, twice, one_kept}
use Rattle.record.proofs.rules.keep.Goals as goal

pub returns-in-Some : goal.returns-in-Some
returns-in-Some g c = one_kept g.T.Kept.number g.T.Kept.live g.T.Kept.empty g.met.T.Kept.dead _ _ _ c.requires.live _ c.ticket-new.ensures _ (search rules) (search rules) (search rules)

pub returns-in_default : goal.returns-in_default
returns-in_default g c = twice g.T.Kept.number g.T.Kept.live g.T.Kept.empty g.met.T.Kept.dead _ _ _ c.requires.live _ c.ticket-new.ensures (search rules)

pub returns-in_default-2 : goal.returns-in_default-2
returns-in_default-2 g c = full g.T.Kept.number g.T.Kept.live g.T.Kept.empty g.met.T.Kept.dead _ _ _ (search rules)

-- The larger of the two, where the number is live.
use mathlib.Core.Path.{◌∙◌}
use native.Mathlib.Omega.{arith}
use Rattle.places.proofs.Rounds.{home_within}
use Rattle.places.proofs.Sought.{raised_most, raised_not}
use Rattle.places.proofs.spans.raised.Goals as goal

pub returns-then-n-i : goal.returns-then-n-i
returns-then-n-i c = raised_not _ _ _ _ _ _ c.from-n.ensures c.then-n-i.either

pub away_from-requires : goal.away_from-requires
away_from-requires c = let h = home_within c.args.each c.args.number (omega arith) in (omega (arith, h, c.home_of-home.ensures, c.from-n.ensures), omega arith, omega (arith, c.from-n.ensures))

pub returns : goal.returns
returns c = c.max.ensures ∙ raised_most _ _ _ _ _ _ _ _ c.from-n.ensures c.home_of-home.ensures c.away_from.ensures.0 (omega arith) c.if-not-live.false

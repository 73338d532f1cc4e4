-- Both sides are those of the quote.
use borrow.Author.Rules.{rules}
use Rattle.host.specs.Sides.{sides_of}
use Rattle.host.proofs.asked.SidesFromQuote.from.Goals as goal

pub returns : goal.returns
unfolding sides_of
returns c = search rules

-- The view's market is the one that the state keeps.
use mathlib.Core.Path.{sym, ◌∙◌}
use Rattle.book.proofs.Views.{view_market}
use Rattle.book.proofs.Book.market.Goals as goal

pub returns : goal.returns
returns c = c.market_of.ensures ∙ sym (view_market c.args.self.now)

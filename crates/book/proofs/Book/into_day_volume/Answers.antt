-- Neither the orders nor the market count.
use Rattle.book.proofs.Book.into_day_volume.Goals as goal

pub returns : goal.returns
returns c = c.volume_among.ensures c.args.self.orders c.args.self.market

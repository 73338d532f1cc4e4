-- Neither the orders nor the market count.
use Rattle.book.proofs.Book.day_volume.Goals as goal

pub returns : goal.returns
returns c = c.volume_among.ensures c.args.self.now.orders c.args.self.now.market

-- A shelf is one of the shelves of all.
use mathlib.Core.List.{[]}
use mathlib.Core.Path.{◌≡◌}
use lib.ListN.{length}
use borrow.Author.Rules.{rules}
use Rattle.orders.proofs.Finding.{chunk_is_shelf}
use Rattle.orders.proofs.Orders.shelf.Goals as goal

pub returns : goal.returns
returns c =
    let long : length c.args.self.now.places ≡ 2048 = search rules in
    rw c.as_chunks.ensures.front (chunk_is_shelf 256 _ c.args.seat.place c.args.self.now.places [] (rw long c.args.seat.below))

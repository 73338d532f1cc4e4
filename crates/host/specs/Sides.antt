-- A quote in numbers, for hosts.
use Rattle.std.specs.Prelude.{true, false, Option, None, Some}
use Rattle.orders.specs.declared.levels.Level.{Level}
use Rattle.book.specs.declared.quote.Quote.{Quote}
use Rattle.host.specs.declared.asked.Side.{Side}
use Rattle.host.specs.declared.asked.Sides.{Sides}

-- none is told by the mark, and by zeros
abbrev pub side_of : Option Level → Side
side_of None = record { some = false; price = 0; size = 0 }
side_of (Some l) = record { some = true; price = l.price; size = l.size }

unfoldable pub sides_of : Quote → Sides
sides_of q = record { answer = q.answer; bid = side_of q.bid; ask = side_of q.ask }

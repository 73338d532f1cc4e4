-- The kept trades and crosses of eight symbols: document 01, "The trade record", and request M-102.
use Rattle.std.specs.Prelude.{Bool, false, List, [], ℕ, ◌*◌, replicate}
use Rattle.places.specs.Places.{symbols, on_shelf}
use Rattle.places.specs.Shelving.{Shelved}
use Rattle.record.specs.declared.Trade.{Trade}
use Rattle.record.specs.declared.Cross.{Cross}
use Rattle.record.specs.declared.Record.{Record}

-- each symbol's own places
abbrev pub trades_each : ℕ
trades_each = 128

abbrev pub crosses_each : ℕ
crosses_each = 16

abbrev pub no_trade : Trade
no_trade = record { live = false; number = 0; price = 0; volume = 0 }

abbrev pub no_cross : Cross
no_cross = record { live = false; number = 0; volume = 0 }

abbrev pub trade_number : Trade → ℕ
trade_number t = t.number

abbrev pub trade_live : Trade → Bool
trade_live t = t.live

abbrev pub trade_volume : Trade → ℕ
trade_volume t = t.volume

abbrev pub cross_number : Cross → ℕ
cross_number x = x.number

abbrev pub cross_live : Cross → Bool
cross_live x = x.live

abbrev pub cross_volume : Cross → ℕ
cross_volume x = x.volume

-- what every promise speaks of: the trades and the crosses kept of a symbol, each list in the order of its numbers
pub record Kept : Type 0 where
  pub trades : List Trade
  pub crosses : List Cross

abbrev pub nothing_kept : Kept
nothing_kept = record { trades = []; crosses = [] }

unfoldable pub kept_at : Record → ℕ → Kept
kept_at b k = record { trades = on_shelf trade_number trade_live trades_each b.places k; crosses = on_shelf cross_number cross_live crosses_each b.crosses k }

-- what holds of every state: in each list no number is kept twice in a symbol, every symbol has its places, and searches read the places' own numbers
pub record Wf (b : Record) : Type 0 where
  pub trades : Shelved trade_number trade_live trades_each b.places b.tickets
  pub crosses : Shelved cross_number cross_live crosses_each b.crosses b.stubs

-- the new record: every place empty
abbrev pub no_trades : Record
no_trades = record {
  places = replicate (symbols * trades_each) no_trade;
  tickets = replicate (symbols * trades_each) 0;
  crosses = replicate (symbols * crosses_each) no_cross;
  stubs = replicate (symbols * crosses_each) 0;
}

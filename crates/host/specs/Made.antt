-- A new book for a host, who gives its market as a number.
use Rattle.std.specs.Prelude.{◌≡◌, ℕ}
use Rattle.markets.specs.Numbers.{named_of, is_named, market_of}
use Rattle.book.specs.State.{Fresh}
use Rattle.host.specs.declared.made.Made.{Made}

-- one of the market of that number; whether it names one is told
pub record MadeFor (market : ℕ) (r : Made) : Type 0 where
  pub known : r.known ≡ is_named (named_of market)
  pub fresh : Fresh (market_of market) r.book

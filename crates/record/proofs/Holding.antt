-- What is kept lies in a symbol's places, a number at most once; in a new state nothing is.
use mathlib.Core.Path.{◌≡◌, refl}
use Prim.Native.Nat.{ℕ, ◌*◌, ◌<◌, ◌≤◌}
use lib.Dec.{eqb}
use lib.ListN.{length}
use Rattle.places.specs.Places.{symbols, count}
use Rattle.places.proofs.EightShelves.{within_places, one_of_number, new_none}
use Rattle.places.proofs.Shelving.{new_shelved}
use Rattle.record.specs.State.{trades_each, crosses_each, no_trade, no_cross, trade_number, trade_live, cross_number, cross_live, nothing_kept, kept_at, Wf, no_trades}
use Rattle.record.specs.declared.Record.{Record}

module _ (b : Record) (k : ℕ) where
  pub trades_within : length (kept_at b k).trades ≤ trades_each
  unfolding kept_at
  trades_within = within_places trade_number trade_live trades_each b.places k

  pub crosses_within : length (kept_at b k).crosses ≤ crosses_each
  unfolding kept_at
  crosses_within = within_places cross_number cross_live crosses_each b.crosses k

  module _ (w : Wf b) (h : k < symbols) (number : ℕ) where
    pub one_trade : count (λ x. eqb (trade_number x) number) (kept_at b k).trades ≤ 1
    unfolding kept_at
    one_trade = one_of_number trade_number trade_live trades_each b.places k w.trades.singles h number

    pub one_cross : count (λ x. eqb (cross_number x) number) (kept_at b k).crosses ≤ 1
    unfolding kept_at
    one_cross = one_of_number cross_number cross_live crosses_each b.crosses k w.crosses.singles h number

pub no_trades_sound : Wf no_trades
no_trades_sound = record { trades = new_shelved trade_number trade_live trades_each no_trade refl; crosses = new_shelved cross_number cross_live crosses_each no_cross refl }

pub new_has_none : (k : ℕ) → kept_at no_trades k ≡ nothing_kept
unfolding kept_at
new_has_none k = λ i. record {
  trades = new_none trade_number trade_live trades_each no_trade refl (symbols * trades_each) k i;
  crosses = new_none cross_number cross_live crosses_each no_cross refl (symbols * crosses_each) k i;
}

-- Demand 3 needs one market for both readers: an execution that Texas applies NYSE refuses, so that with nothing lost a reader of each quotes differently.
use mathlib.Core.Path.{◌≡◌, refl, sym, ap, ◌∙◌}
use Prim.Native.Nat.{ℕ}
use native.Mathlib.Omega.{arith}
use Rattle.std.specs.Prelude as sides
use Rattle.wire.specs.Outcome.{refused}
use Rattle.wire.specs.Bytes.{value, little_endian}
use Rattle.markets.specs.Conditions.{listed}
use Rattle.wire.specs.Table.{shape_of}
use Rattle.wire.specs.Fields.{first_bad, fault_of}
use Rattle.wire.specs.Reading.{reach_by, reach_of, read_by, read_body, read_sized, read_shape, read_typed, read_reached, read_of}
use Rattle.markets.specs.declared.Market.{Market}
use Rattle.feed.specs.Reader.{ruled}
use Rattle.feed.specs.Demand3.{here, more, at_start, NotLost, NoneLost}
use Rattle.places.specs.Places.{first_where, fold, sum_by, insert, remove, look}
use Rattle.symbols.specs.State.{place_of, found_in, vacancy_of}
use Rattle.symbols.specs.Registering as registering
use Rattle.symbols.specs.Registering.{name_bad}
use Rattle.orders.specs.Rules.{apply_to}
use Rattle.orders.specs.Levels.{best_step, shares_at, level_of}
use Rattle.orders.specs.declared.levels.Level.{Level}
use Rattle.record.specs.Rules.{deal_to}
use Rattle.book.specs.State.{View, view}
use Rattle.book.specs.Step.{enacted, meeting, act_on, meant, step_of}
use Rattle.book.specs.Quote.{quote_of}
use Rattle.book.specs.Walk.{steps_of}
use Rattle.book.specs.declared.Book.{Book}
use Rattle.book.specs.declared.quote.Quote.{Quote}
use Rattle.demands.specs.ByteFeed.{sent, delivered, Applied, feed_of}
use Rattle.demands.specs.Demand3.{Reads, Quotes}
use Rattle.demands.specs.Examples.{HasABC, view_abc, in_cash, one_in_cash}
use Rattle.demands.specs.Messages.{index, shows, no_level, ◌at◌}
use Rattle.demands.proofs.Starting.{began_wf}
use Rattle.demands.proofs.Demand3.{reads_after}
use Rattle.demands.proofs.Examples.{has_began, has_view}

-- by computation
pub record TwoMarkets : Type 0 where
  -- Texas applies the execution in cash; NYSE refuses it, at its first condition
  pub in_texas_lem : Applied (view_abc Market.Texas) one_in_cash
  pub on_nyse : (read_of Market.Nyse (in_cash 2 1001 1 1234400 50)).outcome ≡ refused 4
  pub on_nyse_at : (read_of Market.Nyse (in_cash 2 1001 1 1234400 50)).offset ≡ 38
  -- nothing is lost, and a reader of each market is given all of it
  pub nothing_lost : NoneLost index (feed_of Market.Texas one_in_cash)
  pub texas_quotes : quote_of index (steps_of (view_abc Market.Texas) (sent one_in_cash)) ≡ shows (150 at 1234500) no_level
  pub nyse_quotes : quote_of index (steps_of (view_abc Market.Nyse) (delivered one_in_cash)) ≡ shows (200 at 1234500) no_level

pub two_markets : TwoMarkets
unfolding Applied sent delivered feed_of NotLost quote_of level_of best_step shares_at fold sum_by listed value little_endian shape_of first_bad fault_of reach_by reach_of read_by read_body read_sized read_shape read_typed read_reached read_of first_where insert remove look place_of found_in vacancy_of apply_to deal_to name_bad registering.registered ruled enacted meeting act_on meant step_of steps_of
two_markets = record {
  in_texas_lem = ((tt, refl), refl);
  on_nyse = refl;
  on_nyse_at = refl;
  nothing_lost = record { from = _; counts = at_start; since = more (more here tt) tt };
  texas_quotes = refl;
  nyse_quotes = refl;
}

-- the shares of a side, 0 where there is none
size_of : sides.Option Level → ℕ
size_of sides.None = 0
size_of (sides.Some l) = l.size

-- so without the premise the demand would be false
pub two_markets_disagree : {b c first second : Book} → HasABC Market.Texas b → HasABC Market.Nyse c → Reads b (sent one_in_cash) first → Reads c (delivered one_in_cash) second
    → Quotes Reads b c one_in_cash first second → ⊥
unfolding size_of
two_markets_disagree {b = b} p q all rest claimed =
    let texas : (view b).market ≡ Market.Texas = ap (λ (v : View). v.market) (has_view p) in
    let one = ap (quote_of index) ((reads_after (began_wf (has_began p)) all).seen ∙ ap (λ (v : View). steps_of v (sent one_in_cash)) (has_view p)) ∙ two_markets.texas_quotes in
    let other = ap (quote_of index) ((reads_after (began_wf (has_began q)) rest).seen ∙ ap (λ (v : View). steps_of v (delivered one_in_cash)) (has_view q)) ∙ two_markets.nyse_quotes in
    let same : shows (200 at 1234500) no_level ≡ shows (150 at 1234500) no_level = sym other ∙ claimed.nothing_lost index (rw texas two_markets.nothing_lost) ∙ one in
    let bid : ◌≡◌ {A = sides.Option Level} (200 at 1234500) (150 at 1234500) = ap (λ (x : Quote). x.bid) same in
    let size : ◌≡◌ {A = ℕ} 200 150 = ap size_of bid in
    omega (arith, size)

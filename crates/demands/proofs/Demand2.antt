-- Demand 2: the laws of the book, brought to the states that the calls hand back.
use Prim.Native.Nat.{ℕ, ◌+◌, ◌<◌}
use mathlib.Core.Bool.{Bool, true, false, false≢true}
use mathlib.Core.List.{List, [], ◌∷◌}
use mathlib.Core.Option.{Option, none, some}
use mathlib.Core.Path.{◌≡◌, refl, sym, ap, ◌∙◌, subst}
use lib.ListN.{length, take, drop}
use Rattle.wire.specs.Outcome.{done}
use Rattle.wire.specs.Reading.{read_of}
use Rattle.wire.specs.declared.Head.{Head}
use Rattle.wire.specs.declared.Message.{Message}
use Rattle.markets.specs.declared.Market.{Market}
use Rattle.wire.proofs.RoundTrip.{read_what_was_written, write_what_was_read}
use Rattle.book.specs.State.{Symbol, View, Next, view, symbol_in, live_in, crosses_in}
use Rattle.feed.specs.Reader.{index_of}
use Rattle.book.specs.Promises.{left_out}
use Rattle.book.specs.Quote.{quoted, quote_of, volume_of, Replaces, side_of}
use Rattle.book.specs.Step.{buys, if_printable, meant, act_on, step_in}
use Rattle.book.specs.Walk.{walk_of, steps_of, run_of, Moves, Runs}
use Rattle.book.specs.Reached.{Reached}
use Rattle.book.specs.declared.Book.{Book}
use Rattle.std.specs.Prelude.{is_some}
use Rattle.orders.specs.Levels.{level_at, TakesOff}
use Rattle.book.specs.declared.walk.Moved.{Moved}
use Rattle.book.specs.declared.walk.Ran.{Ran}
use Rattle.places.specs.Places.{look}
use Rattle.record.specs.State.{crosses_each, cross_number}
use Rattle.record.specs.Rules.{cross_of}
use Rattle.record.specs.declared.Cross.{Cross}
use Rattle.record.proofs.Crosses.{repeated_left_out, crowded_left_out, unknown_left_out}
use Rattle.book.proofs.Auctions as auctions
use Rattle.book.proofs.Auctions.{cross_raises, cross_found, correction_replaces, correction_found}
use Rattle.book.proofs.Holding.{all_live, orders_within, trades_within, crosses_within, one_live, one_kept, one_cross}
use Rattle.book.proofs.Isolation.{step_others, apply_others}
use Rattle.book.proofs.OneMarket.{step_market}
use Rattle.book.proofs.Positions.{position_is_sum, stops_there}
use Rattle.book.proofs.Levels.{exact_sum, attained, best_price, none_live, case_d, execution}
use Rattle.book.proofs.Marks.{apply_mark, run_mark}
use Rattle.book.proofs.Reaching.{reached_wf}
use Rattle.demands.specs.Demand2.{NotFor, OfSymbol, LeavesOut, repeated, full, unknown, OfMessage, AllNotFor, OfRun, Demand2, RoundTrips}
use Rattle.demands.specs.Demand3.{StandsAt, quote_in}
use Rattle.demands.proofs.Demand3.{stands_acts}

-- what is quoted at a price is of a registered symbol
record Quoted (index : ℕ) (v : View) : Type 0 where
  pub symbol : Symbol
  pub there : symbol_in index v ≡ some symbol

is_quoted : (buy : Bool) (index : ℕ) (v : View) (p n : ℕ) → side_of buy (quote_of index v) ≡ level_at p n → Quoted index v
unfolding quote_of
is_quoted buy index v p n q = go (symbol_in index v) refl buy q
  where
    go : (x : Option Symbol) → symbol_in index v ≡ x → (side : Bool) → side_of side (quoted x) ≡ level_at p n → Quoted index v
    go none e true z = absurd (false≢true (ap is_some z))
    go none e false z = absurd (false≢true (ap is_some z))
    go (some s) e side z = record { symbol = s; there = e }

steps_others : (market : Market) (index : ℕ) (ms : List (List ℕ)) (v : View) → v.market ≡ market → AllNotFor market index ms → symbol_in index (steps_of v ms) ≡ symbol_in index v
unfolding steps_of
steps_others market index [] v same other = refl
steps_others market index (m ∷ ms) v same other =
    steps_others market index ms (step_in v m).view (step_market v (read_of v.market m) ∙ same) other.1
    ∙ step_others v (read_of v.market m) index (subst (λ (k : Market). NotFor k index m) (sym same) other.0)

-- ---- a message that is left out
left_out_of : (v : View) {message : Message} (x : Symbol) → LeavesOut x message → symbol_in (index_of (meant message)) v ≡ some x → (act_on v (meant message)).answer ≡ 0
    → symbol_in (index_of (meant message)) (act_on v (meant message)).view ≡ some (left_out x)
unfolding meant
left_out_of v x (repeated head cross price volume class y kept) there z = auctions.left_out_lem v head.index head.number x there _ z (repeated_left_out x.kept cross volume y kept)
left_out_of v x (full head cross price volume class crowded) there z = auctions.left_out_lem v head.index head.number x there _ z (crowded_left_out x.kept cross volume crowded)
left_out_of v x (unknown head cross volume new) there z = auctions.left_out_lem v head.index head.number x there _ z (unknown_left_out x.kept cross volume new)

module _ {b : Book} (p : Reached b) where
  add_raises : {s : List ℕ} {at : ℕ} {m : List ℕ} {r : Moved} → Moves b s at r
      → (head : Head) (order price volume side size : ℕ) → StandsAt s at m → (read_of (view b).market m).outcome ≡ done (Message.Add head order price volume side) → r.answer ≡ 0
      → side_of (buys side) (quote_in b head.index) ≡ level_at price size → side_of (buys side) (quote_in r.book head.index) ≡ level_at price (size + volume)
  unfolding meant
  add_raises m head order price volume side size t e z q =
      let o = m.obeys (reached_wf p) in
      let acts = stands_acts (view b) t e in
      let is = is_quoted (buys side) head.index (view b) price size q in
      ap (λ (v : View). side_of (buys side) (quote_of head.index v)) (o.next_view ∙ ap (λ (x : Next). x.view) acts)
      ∙ case_d (buys side) (view b) head.index head.number order price volume size is.symbol is.there q (sym (o.answer ∙ ap (λ (x : Next). x.answer) acts) ∙ z)

  execution_takes_off : {s : List ℕ} {at : ℕ} {m : List ℕ} {r : Moved} → Moves b s at r
      → (head : Head) (order trade price volume printable : ℕ) → StandsAt s at m → (read_of (view b).market m).outcome ≡ done (Message.Execute head order trade price volume printable) → r.answer ≡ 0
      → TakesOff order volume (live_in head.index (view b)) (live_in head.index (view r.book))
  unfolding meant
  execution_takes_off m head order trade price volume printable t e z =
      let o = m.obeys (reached_wf p) in
      let acts = stands_acts (view b) t e in
      subst (λ (v : View). TakesOff order volume (live_in head.index (view b)) (live_in head.index v)) (sym (o.next_view ∙ ap (λ (x : Next). x.view) acts))
      (execution (view b) head.index head.number order volume (if_printable printable trade price volume) (all_live b head.index) (sym (o.answer ∙ ap (λ (x : Next). x.answer) acts) ∙ z))

  -- ---- a message that stands there and is done: the next view is the act's, and the act is done
  record ActDone (r : Moved) (message : Message) : Type 0 where
    pub next_view : view r.book ≡ (act_on (view b) (meant message)).view
    pub answer : (act_on (view b) (meant message)).answer ≡ 0

  act_done : {s : List ℕ} {at : ℕ} {m : List ℕ} {r : Moved} → Moves b s at r → (message : Message) → StandsAt s at m → (read_of (view b).market m).outcome ≡ done message → r.answer ≡ 0 → ActDone r message
  act_done m message t e z =
      let o = m.obeys (reached_wf p) in
      let acts = stands_acts (view b) t e in
      record { next_view = o.next_view ∙ ap (λ (x : Next). x.view) acts; answer = sym (o.answer ∙ ap (λ (x : Next). x.answer) acts) ∙ z }

  cross_adds : {s : List ℕ} {at : ℕ} {m : List ℕ} {r : Moved} → Moves b s at r
      → (head : Head) (cross price volume class : ℕ) (x : Symbol) → StandsAt s at m → (read_of (view b).market m).outcome ≡ done (Message.Cross head cross price volume class) → r.answer ≡ 0
      → symbol_in head.index (view b) ≡ some x → look cross_number cross x.kept.crosses ≡ none → length x.kept.crosses < crosses_each
      → (volume_of head.index (view r.book) ≡ record { answer = 0; shares = (volume_of head.index (view b)).shares + volume; whole = (volume_of head.index (view b)).whole })
      × (look cross_number cross (crosses_in head.index (view r.book)) ≡ some (cross_of cross volume))
  unfolding meant
  cross_adds m head cross price volume class x t e z there new room =
      let a = act_done m (Message.Cross head cross price volume class) t e z in (
        ap (volume_of head.index) a.next_view ∙ cross_raises (view b) head.index head.number x there cross volume a.answer new room,
        ap (λ (v : View). look cross_number cross (crosses_in head.index v)) a.next_view ∙ cross_found (view b) head.index head.number x there cross volume a.answer new room,
      )

  correction_takes_its_place : {s : List ℕ} {at : ℕ} {m : List ℕ} {r : Moved} → Moves b s at r
      → (head : Head) (cross volume : ℕ) (x : Symbol) (y : Cross) → StandsAt s at m → (read_of (view b).market m).outcome ≡ done (Message.CrossCorrection head cross volume) → r.answer ≡ 0
      → symbol_in head.index (view b) ≡ some x → look cross_number cross x.kept.crosses ≡ some y
      → Replaces y.volume volume (volume_of head.index (view b)) (volume_of head.index (view r.book))
      × (look cross_number cross (crosses_in head.index (view r.book)) ≡ some (cross_of cross volume))
  unfolding meant
  correction_takes_its_place m head cross volume x y t e z there found =
      let a = act_done m (Message.CrossCorrection head cross volume) t e z in (
        subst (λ (v : View). Replaces y.volume volume (volume_of head.index (view b)) (volume_of head.index v)) (sym a.next_view) (correction_replaces (view b) head.index head.number x there cross volume y a.answer found),
        ap (λ (v : View). look cross_number cross (crosses_in head.index v)) a.next_view ∙ correction_found (view b) head.index head.number x there cross volume y a.answer found,
      )

  leaves_out : {s : List ℕ} {at : ℕ} {m : List ℕ} {r : Moved} → Moves b s at r → (message : Message) (x : Symbol) → StandsAt s at m → (read_of (view b).market m).outcome ≡ done message → r.answer ≡ 0
      → symbol_in (index_of (meant message)) (view b) ≡ some x → LeavesOut x message → symbol_in (index_of (meant message)) (view r.book) ≡ some (left_out x)
  unfolding meant
  leaves_out m message x t e z there l = let a = act_done m message t e z in ap (symbol_in (index_of (meant message))) a.next_view ∙ left_out_of (view b) x l there a.answer

  of_symbol : (index : ℕ) (s : Symbol) → symbol_in index (view b) ≡ some s → OfSymbol b index s
  of_symbol index s e = record {
    exact_sum = λ buy price size. exact_sum buy (view b) index s price size e;
    attained = λ buy price size. attained buy (view b) index s price size e;
    best_price = λ buy price size. best_price buy (view b) index s price size e;
    none_live = λ buy. none_live buy (view b) index s e;
    orders_within = orders_within b index s e;
    one_live = one_live b index s e (reached_wf p);
    trades_within = trades_within b index s e;
    one_kept = one_kept b index s e (reached_wf p);
    crosses_within = crosses_within b index s e;
    one_cross = one_cross b index s e (reached_wf p);
  }

  of_message_lem : {s : List ℕ} {at : ℕ} {r : Moved} → Moves b s at r → OfMessage b s at r
  of_message_lem {s = s} {at = at} {r = r} m = record {
    effects = m.obeys (reached_wf p);
    case_d = add_raises m;
    execution = execution_takes_off m;
    cross_counts = cross_adds m;
    correction_counts = correction_takes_its_place m;
    leaves_out = leaves_out m;
    others_unchanged = λ index other. apply_others b s at r (reached_wf p) m index (λ n x e f. other (take n (drop at s)) (record { size = n; reaches = e; bytes = refl }) x f);
    mark_stays_lost = λ index. apply_mark index b s at r (reached_wf p) m;
    market_stays = m.market;
  }

  of_run : {s : List ℕ} {from : ℕ} {r : Ran} → Runs b s from r → OfRun b s from r
  unfolding run_of
  of_run {s = s} {from = from} {r = r} m = record {
    effects = m.obeys (reached_wf p);
    position = position_is_sum b s from r m;
    stopped = rw (m.at, m.answer) (stops_there s from);
    others_unchanged = λ index other. ap (symbol_in index) (m.obeys (reached_wf p)).next_view ∙ steps_others (view b).market index (walk_of s from).messages (view b) refl other;
    mark_stays_lost = λ index. run_mark index b s from r (reached_wf p) m;
    market_stays = m.market;
  }

  pub demand_2_holds : Demand2 b
  demand_2_holds = record { symbols = of_symbol; messages = of_message_lem; runs = of_run; market_stays = λ index name scale s. s.market }

pub round_trips : RoundTrips
round_trips = record { read_what_was_written = read_what_was_written; write_what_was_read = write_what_was_read }

-- What demand 3 takes as given can be met: the feeds of the examples are applied without a refusal, by computation, and the code's own promises make the states.
use mathlib.Core.Bool.{Bool, true, false}
use mathlib.Core.Logic.{◌↔◌}
use mathlib.Core.Path.{◌≡◌, refl, ap, ◌∙◌}
use Prim.Native.Nat.{ℕ, ◌+◌, ◌≤◌}
use native.Mathlib.Omega.{arith}
use borrow.Author.Tests.{lt-ltb}
use lib.Dec.{eqb}
use Rattle.wire.specs.Bytes.{value, little_endian}
use Rattle.wire.specs.Table.{shape_of}
use Rattle.markets.specs.Conditions.{listed}
use Rattle.wire.specs.Fields.{first_bad, fault_of}
use Rattle.wire.specs.Reading.{reach_by, reach_of, read_by, read_body, read_sized, read_shape, read_typed, read_reached, read_of}
use Rattle.markets.specs.declared.Market.{Market}
use Rattle.feed.specs.Reader.{ruled, numbered}
use Rattle.places.specs.Places.{first_where, fold, sum_by, insert, remove, look}
use Rattle.symbols.specs.State.{place_of, found_in, vacancy_of}
use Rattle.symbols.specs.Registering as registering
use Rattle.symbols.specs.Registering.{name_bad}
use Rattle.symbols.specs.Promises.{after}
use Rattle.symbols.proofs.Entering.{some_entered}
use Rattle.orders.specs.Rules.{apply_to}
use Rattle.record.specs.Rules.{deal_to}
use Rattle.book.specs.State.{Symbol, View, view, Fresh}
use Rattle.book.specs.Registering.{register_of}
use Rattle.book.specs.Step.{enacted, meeting, act_on, meant, step_of}
use Rattle.orders.specs.Levels.{best_step, shares_at, level_of}
use Rattle.book.specs.Quote.{quote_of}
use Rattle.book.specs.Walk.{steps_of}
use Rattle.book.specs.declared.Book.{Book}
use Rattle.book.proofs.Beginning.{fresh}
use Rattle.book.proofs.Registering.{with, registering_steps}
use Rattle.demands.specs.Reader.{Effect, Registered}
use Rattle.demands.specs.ByteFeed.{ByteFeed, sent, delivered, Complete, Applied, ClearsDelivered}
use Rattle.demands.specs.Demand3.{Began, Given}
use Rattle.demands.specs.Demand3 as began
use Rattle.demands.specs.Examples.{name, scale, HasABC, registered, view_abc, other, view_abc_then_xyz, view_xyz_then_abc, one_add, with_losses, quotes_along, along_losses, last, feed_past_the_last, last_lost, in_texas}
use Rattle.demands.specs.Messages.{index}

pub has_began : {market : Market} {b : Book} → HasABC market b → Began b
has_began (registered f s) = began.registers index name scale (began.new f) s

pub has_view : {market : Market} {b : Book} → HasABC market b → view b ≡ view_abc market
has_view (registered f s) = (s.obeys f.wf).next_view ∙ ap (λ (v : View). (register_of v index name scale).view) f.view_is_new

-- what is left to be seen of a feed
pub record Fair (v : View) (f : ByteFeed) : Type 0 where
  pub complete : Complete f
  pub applied : Applied v f
  pub clears : ClearsDelivered f

met : {b c : Book} (v w : View) (f : ByteFeed) → Fair v f → v.market ≡ w.market → ((i : ℕ) → Registered i v ↔ Registered i w) → Began b → Began c → view b ≡ v → view c ≡ w → Given b c f
met v w f x market same p q e d = record {
  first_began = p;
  second_began = q;
  same_market = rw (e, d) market;
  same_symbols = λ i. rw (e, d) (same i);
  complete = x.complete;
  applied = rw e x.applied;
  clears_delivered = x.clears;
}

met_by_abc : {b c : Book} (market : Market) (f : ByteFeed) → Fair (view_abc market) f → HasABC market b → HasABC market c → Given b c f
met_by_abc market f x p q = met (view_abc market) (view_abc market) f x refl (λ i. ((λ y. y), (λ y. y))) (has_began p) (has_began q) (has_view p) (has_view q)

-- by computation
record AllFair (market : Market) : Type 0 where
  pub one_add_lem : Fair (view_abc market) one_add
  pub with_losses_lem : Fair (view_abc market) with_losses
  pub to_two : Fair (view_abc_then_xyz market) with_losses
  pub past_the_last : Fair (view_abc market) feed_past_the_last
  pub last_lost_lem : Fair (view_abc market) last_lost
  pub along : quotes_along market with_losses ≡ along_losses

all_fair : (market : Market) → AllFair market
unfolding Complete Applied ClearsDelivered sent quotes_along delivered quote_of level_of best_step shares_at fold sum_by listed value little_endian shape_of first_bad fault_of reach_by reach_of read_by read_body read_sized read_shape read_typed read_reached read_of first_where insert remove look place_of found_in vacancy_of apply_to deal_to name_bad registering.registered ruled enacted meeting act_on meant step_of steps_of
all_fair market = record {
  one_add_lem = record { complete = (tt, refl); applied = (tt, refl); clears = tt };
  with_losses_lem = record {
    complete = ((((((tt, refl), refl), refl), refl), refl), refl);
    applied = ((((((tt, refl), refl), refl), refl), refl), refl);
    clears = ((tt, omega arith), omega arith);
  };
  to_two = record {
    complete = ((((((tt, refl), refl), refl), refl), refl), refl);
    applied = ((((((tt, refl), refl), refl), refl), refl), refl);
    clears = ((tt, omega arith), omega arith);
  };
  past_the_last = record { complete = ((((tt, refl), refl), refl), refl); applied = ((((tt, refl), refl), refl), refl); clears = tt };
  last_lost_lem = record { complete = ((((tt, refl), refl), refl), refl); applied = ((((tt, refl), refl), refl), refl); clears = (tt, omega arith) };
  along = refl;
}

-- what the second reader quotes at each moment of the feed with losses
pub losses_quoted : (market : Market) → quotes_along market with_losses ≡ along_losses
losses_quoted market = (all_fair market).along

-- THE PREMISE IS MET in every market, with losses and at number 4,294,967,295
module _ {market : Market} {b c : Book} (p : HasABC market b) (q : HasABC market c) where
  pub given_one_add : Given b c one_add
  given_one_add = met_by_abc market one_add (all_fair market).one_add_lem p q

  pub given_with_losses : Given b c with_losses
  given_with_losses = met_by_abc market with_losses (all_fair market).with_losses_lem p q

  pub given_past_the_last : Given b c feed_past_the_last
  given_past_the_last = met_by_abc market feed_past_the_last (all_fair market).past_the_last p q

  pub given_last_lost : Given b c last_lost
  given_last_lost = met_by_abc market last_lost (all_fair market).last_lost_lem p q

-- and with conditions that one market alone lists
texas_fair : Fair (view_abc Market.Texas) in_texas
unfolding Complete Applied ClearsDelivered sent listed value little_endian shape_of first_bad fault_of reach_by reach_of read_by read_body read_sized read_shape read_typed read_reached read_of first_where insert remove look place_of found_in vacancy_of apply_to deal_to name_bad registering.registered ruled enacted meeting act_on meant step_of steps_of
texas_fair = record { complete = (((tt, refl), refl), refl); applied = (((tt, refl), refl), refl); clears = (tt, omega arith) }

pub given_in_texas : {b c : Book} → HasABC Market.Texas b → HasABC Market.Texas c → Given b c in_texas
given_in_texas = met_by_abc Market.Texas in_texas texas_fair

-- and with two symbols, registered in either order
either_order : (market : Market) (i : ℕ) → Registered i (view_abc_then_xyz market) ↔ Registered i (view_xyz_then_abc market)
unfolding found_in place_of vacancy_of first_where name_bad registering.registered
either_order market i = go (eqb index i) (eqb other i) refl refl
  where
    go : (t u : Bool) → eqb index i ≡ t → eqb other i ≡ u → Registered i (view_abc_then_xyz market) ↔ Registered i (view_xyz_then_abc market)
    go true true e d = rw (e, d) ((λ y. tt), (λ y. tt))
    go true false e d = rw (e, d) ((λ y. tt), (λ y. tt))
    go false true e d = rw (e, d) ((λ y. tt), (λ y. tt))
    go false false e d = rw (e, d) ((λ y. y), (λ y. y))

pub given_in_either_order : (market : Market) {b c : Book} → Began b → Began c → view b ≡ view_abc_then_xyz market → view c ≡ view_xyz_then_abc market → Given b c with_losses
given_in_either_order market = met (view_abc_then_xyz market) (view_xyz_then_abc market) with_losses (all_fair market).to_two refl (either_order market)

-- Once the last number is applied every further numbered message answers 6, so that a feed that is given goes on with a clear, and nothing can be lost before it.
pub after_the_last : (s : Symbol) (i n : ℕ) (e : Effect) → s.entry.standing.stale ≡ false → s.entry.standing.expected ≡ last + 1 → n ≤ last → (meeting s (numbered i n e)).answer ≡ 6
unfolding meeting ruled enacted
after_the_last s i n e fresh turn h = rw (fresh, lt-ltb n s.entry.standing.expected (omega arith))

-- ---- such a state there is, of every market
pub record WithABC (market : Market) : Type 0 where
  pub book : Book
  pub has : HasABC market book

registers_abc : (market : Market) (b : Book) → Fresh market b → WithABC market
unfolding first_where name_bad
registers_abc market b f =
    let e = some_entered index name scale (omega arith) refl in
    record { book = with b (after b.symbols e.result); has = registered f (registering_steps b index name scale e.result (rw f.names e.registers)) }

pub some_has_abc : (market : Market) → WithABC market
some_has_abc market = registers_abc market _ (fresh market)

-- Demand 3 for the reader that is built: a call leaves the view that the rule says, the rule is a reader of `feed`, and for readers of `feed` demand 3 is proved.
use mathlib.Core.List.{List}
use mathlib.Core.Option.{Option}
use mathlib.Core.Path.{◌≡◌, refl, sym, ap, ◌∙◌, subst}
use Prim.Native.Nat.{ℕ}
use Rattle.wire.specs.Outcome.{Outcome, done}
use Rattle.wire.specs.Reading.{read_of}
use Rattle.wire.specs.declared.Message.{Message}
use Rattle.feed.specs.Reader.{Act, quote}
use Rattle.feed.specs.Feed.{heard, ◌▷◌, first, second}
use Rattle.feed.specs.Feed as feed-given
use Rattle.feed.specs.Demand3 as feed
use Rattle.feed.proofs.Demand3.{demand_3}
use Rattle.book.specs.State.{View, Next, view, Wf}
use Rattle.book.specs.Step.{act_on, meant, step_on, step_of, step_in}
use Rattle.book.specs.Quote.{quote_of}
use Rattle.book.specs.Walk.{AllComplete, move_by, move_of, steps_of, run_of, Moves}
use Rattle.book.specs.declared.Book.{Book}
use Rattle.book.specs.declared.walk.Moved.{Moved}
use Rattle.book.proofs.Walking.{steps_join}
use Rattle.book.proofs.OneMarket.{steps_market}
use Rattle.demands.specs.Reader.{pillar, Effect, as_quote}
use Rattle.demands.specs.ByteFeed.{ByteFeed, hears, sent, delivered, IsDone, Applied, goes_on, feed_of}
use Rattle.demands.specs.Demand3.{Began, StandsAt, Reads, nothing, applies, refuses, runs, RunsOver, ran, Given, AnswersZero, nothing_yet, to_heard, to_lost, AnsweredAs, Demand3, quote_in}
use Rattle.demands.proofs.Reader.{reader, quotes_kept}
use Rattle.demands.proofs.Starting.{began_wf}
use Rattle.demands.proofs.Laying.{sent_complete, delivered_complete, walks_messages}
use Rattle.demands.proofs.Moments.{given_at}
use Rattle.demands.proofs.Refused.{refused_changes_nothing, counted_steps, all_count}
use Rattle.demands.proofs.Translating.{steps_last, first_steps, second_steps, heard_says, heard_acts, is_registered, given_feed}

-- ---- a message that stands there is stepped over
pub stands_step : (v : View) {s : List ℕ} {at : ℕ} {m : List ℕ} → StandsAt s at m → move_of v s at ≡ step_in v m
unfolding move_of
stands_step v {s = s} {at = at} t = ap (λ (x : Outcome ℕ). move_by x v s at) t.reaches ∙ ap (λ (b : List ℕ). step_in v b) t.bytes

-- and one that is read is one act
pub stands_acts : (v : View) {s : List ℕ} {at : ℕ} {m : List ℕ} {x : Message} → StandsAt s at m → (read_of v.market m).outcome ≡ done x → move_of v s at ≡ act_on v (meant x)
unfolding step_of
stands_acts v t e = stands_step v t ∙ ap (step_on v) e

-- ---- the state after some messages, by the calls' promises
pub record After (b : Book) (ms : List (List ℕ)) (r : Book) : Type 0 where
  pub sound : Wf r
  pub seen : view r ≡ steps_of (view b) ms

pub reads_after : {b r : Book} {ms : List (List ℕ)} → Wf b → Reads b ms r → After b ms r
unfolding steps_of run_of
reads_after w nothing = record { sound = w; seen = refl }
reads_after {b = b} w (applies {ms = ms} {c = c} {m = m} p stands moves) =
    let a = reads_after w p in
    let o = moves.obeys a.sound in
    record {
      sound = o.wf;
      seen = o.next_view ∙ ap (λ (x : Next). x.view) (stands_step (view c) stands)
          ∙ ap (λ (v : View). (step_in v m).view) a.seen ∙ sym (steps_last (view b) ms m);
    }
reads_after w (refuses p moves least most) =
    let a = reads_after w p in
    let same = refused_changes_nothing moves least most in
    record { sound = rw same a.sound; seen = rw same a.seen }
reads_after {b = b} w (runs {ms = ms} {ns = ns} {c = c} p run counted) =
    let a = reads_after w p in
    let o = run.obeys a.sound in
    record { sound = o.wf; seen = o.next_view ∙ counted_steps counted ∙ ap (λ (v : View). steps_of v ns) a.seen ∙ sym (steps_join (view b) ms ns) }

-- ---- any way of giving a reader complete messages that leaves the view that the rule says
abbrev Faithful : (Book → List (List ℕ) → Book → Type 0) → Type 0
Faithful Takes = (b : Book) (ms : List (List ℕ)) (r : Book) → Wf b → AllComplete ms → Takes b ms r → After b ms r

module _ (Takes : Book → List (List ℕ) → Book → Type 0) (faithful : Faithful Takes) (b c : Book) where
  module _ {f : ByteFeed} (g : Given b c f) where
    first_quotes : {r : Book} → Takes b (sent f) r → (index : ℕ) → quote_in r index ≡ as_quote (quote pillar reader (first pillar reader (view b) (feed_of (view b).market f)) index)
    first_quotes {r = r} t index =
        ap (quote_of index) ((faithful b (sent f) r (began_wf g.first_began) (sent_complete f g.complete) t).seen ∙ first_steps (view b) f g.applied)
        ∙ quotes_kept (first pillar reader (view b) (feed_of (view b).market f)) index

    second_after : {r : Book} → Takes c (delivered f) r → After c (delivered f) r
    second_after {r = r} t = faithful c (delivered f) r (began_wf g.second_began) (delivered_complete f g.complete) t

    second_view : {r : Book} → Takes c (delivered f) r → view r ≡ second pillar reader (view c) (feed_of (view b).market f)
    second_view t = (second_after t).seen ∙ second_steps (view b) (view c) (sym g.same_market) f g.applied

    second_quotes : {r : Book} → Takes c (delivered f) r → (index : ℕ) → quote_in r index ≡ as_quote (quote pillar reader (second pillar reader (view c) (feed_of (view b).market f)) index)
    second_quotes {r = r} t index =
        ap (quote_of index) (second_view t)
        ∙ quotes_kept (second pillar reader (view c) (feed_of (view b).market f)) index

    answers_next : {d : Book} → Takes c (delivered f) d → {s : List ℕ} {at : ℕ} {m : List ℕ} {r : Moved} → Given b c (hears f m) → StandsAt s at m → Moves d s at r → AnsweredAs (view b).market f m r.answer
    unfolding feed_of
    answers_next {d = d} t {s = s} {at = at} {m = m} h stands moves =
        let says = heard_says (view b) f m h.applied in
        let given : feed-given.Given pillar reader (view b) (view c) (feed_of (view b).market f ▷ heard says.act) = subst (λ (x : Option (Act Effect)). feed-given.Given pillar reader (view b) (view c) (goes_on (feed_of (view b).market f) heard x)) says.is (given_feed b c (hears f m) h) in
        record {
          act = says.act;
          says = says.is;
          number =
              (moves.obeys (second_after t).sound).answer ∙ ap (λ (x : Next). x.answer) (stands_step (view d) stands ∙ heard_acts (view b) f m h.applied (view d) (ap (λ (v : View). v.market) (second_after t).seen ∙ steps_market (view c) (delivered f) ∙ sym g.same_market))
              ∙ ap (λ (v : View). (act_on v says.act).answer) (second_view t)
              ∙ (demand_3 pillar reader (view b) (view c)).answers given;
        }

  abbrev of_views : feed.Demand3 pillar reader (view b) (view c)
  of_views = demand_3 pillar reader (view b) (view c)

  pub demanded : Demand3 Takes b c
  unfolding as_quote
  demanded f _ _ n =
      let given = given_feed b c f n.given in
      let now = first_quotes n.given n.all in
      let hearing = second_quotes n.given n.rest in
      record {
        nothing_lost = λ index l. hearing index ∙ ap as_quote (of_views.nothing_lost index given l) ∙ sym (now index);
        quotes_the_book = λ index y l. hearing index ∙ ap as_quote (of_views.quotes_the_book index given (is_registered (view b) index y) l);
        first_quotes_the_book = λ index y. now index ∙ ap as_quote (of_views.first_quotes_the_book index given (is_registered (view b) index y));
        after_a_loss = λ index m before l. hearing index ∙ ap as_quote (of_views.after_a_loss index given l) ∙ sym (first_quotes (given_at b c m n.given) before index);
        refused_until_a_clear = λ index u. hearing index ∙ ap as_quote (of_views.refused_until_a_clear index given u);
        from_that_clear_on = λ index s. hearing index ∙ ap as_quote (of_views.from_that_clear_on index given s) ∙ sym (now index);
        answers = answers_next n.given n.rest;
      }

-- DEMAND 3, over views,
pub demand_3_over_views : (v w : View) → feed.Demand3 pillar reader v w
demand_3_over_views = demand_3 pillar reader

-- for readers that are given the feed by any calls,
pub demand_3_holds : (b c : Book) → Demand3 Reads b c
demand_3_holds = demanded Reads (λ b ms r w a p. reads_after w p)

-- and from bytes: each is one run over the messages laid end to end
pub run_reads : {b r : Book} {ms : List (List ℕ)} → AllComplete ms → RunsOver b ms r → Reads b ms r
run_reads {b = b} {ms = ms} a (ran p) = runs {ns = ms} nothing p (rw (walks_messages ms a) (all_count (view b) ms))

pub demand_3_from_bytes : (b c : Book) → Demand3 RunsOver b c
demand_3_from_bytes = demanded RunsOver (λ b ms r w a p. reads_after w (run_reads a p))

-- ---- a reader that answers 0 to all of a feed applies it without one refusal
zero_reads : {b r : Book} {f : ByteFeed} → AnswersZero b f r → Reads b (sent f) r
unfolding sent
zero_reads nothing_yet = nothing
zero_reads (to_heard p stands moves z) = applies (zero_reads p) stands moves
zero_reads (to_lost p stands moves z) = applies (zero_reads p) stands moves

zero_done : {b c : Book} {f : ByteFeed} {s : List ℕ} {at : ℕ} {m : List ℕ} {r : Moved} → Wf b → AnswersZero b f c → StandsAt s at m → Moves c s at r → r.answer ≡ 0 → IsDone (view b) (sent f) m
zero_done {c = c} {m = m} w p stands moves z =
    let a = reads_after w (zero_reads p) in
    ap (λ (v : View). (step_in v m).answer) (sym a.seen) ∙ sym (ap (λ (x : Next). x.answer) (stands_step (view c) stands)) ∙ sym (moves.obeys a.sound).answer ∙ z

pub applied_by_calls : {b r : Book} {f : ByteFeed} → Began b → AnswersZero b f r → Applied (view b) f
unfolding Applied
applied_by_calls g nothing_yet = tt
applied_by_calls g (to_heard p stands moves z) = (applied_by_calls g p, zero_done (began_wf g) p stands moves z)
applied_by_calls g (to_lost p stands moves z) = (applied_by_calls g p, zero_done (began_wf g) p stands moves z)

-- Demand 1: the numbers and what they leave are those of the rules' clauses, and where a message ends is read off its first bytes.
use Prim.Native.Nat.{ℕ, ◌≤◌, ◌<◌}
use native.Mathlib.Omega.{arith}
use mathlib.Core.Bool.{Bool, true, false, cond, false≢true}
use mathlib.Core.List.{List, [], ◌∷◌, ◌++◌}
use mathlib.Core.Logic.{◌≢◌}
use mathlib.Core.Option.{Option, none, some}
use mathlib.Core.Path.{◌≡◌, refl, sym, ap, ◌∙◌}
use lib.Dec.{ltb, eqb}
use lib.ListN.{length, take, drop}
use borrow.Author.Tests.{eqb-true, eqb-false, ltb-true, ltb-false}
use Rattle.std.specs.Prelude as told-of
use Rattle.std.specs.Prelude.{None, Some, Result, Ok, Err}
use Rattle.wire.specs.Outcome.{Outcome, done, refused, number_of}
use Rattle.wire.specs.Reading.{least_size, msg_size, reach_of, read_of}
use Rattle.wire.specs.Writing.{count_of, write_of}
use Rattle.wire.specs.Fields.{fault_as}
use Rattle.wire.specs.Message.{fault_in, bad_field_of}
use Rattle.wire.specs.FirstBad.{Locates}
use Rattle.wire.specs.declared.Message.{Message}
use Rattle.markets.specs.declared.Market.{Market}
use Rattle.wire.proofs.Cases.{done_is_not_refused, reached, reach_short, reach_small, reach_beyond, reach_size}
use Rattle.wire.proofs.Offsets.{read_locates, field_locates, write_locates}
use Rattle.wire.proofs.Refusing.{reach_refused, read_refused, read_zeros, reached_refused, write_refused, write_untouched, write_fills}
use Rattle.feed.specs.Reader.{Fit, fits, misfit, no_room, ruled, Act, clearing, numbered, index_of}
use Rattle.places.specs.Places.{among}
use Rattle.symbols.specs.State.{Entry, entries, itself}
use Rattle.symbols.specs.Answers.{answered as answer_of, register_number}
use Rattle.symbols.specs.Promises.{after}
use Rattle.symbols.specs.Turns.{turn_answer, turn_at}
use Rattle.symbols.specs.Registering.{told_of}
use Rattle.symbols.specs.declared.registering.RegisterError.{RegisterError}
use Rattle.symbols.specs.declared.Symbols.{Symbols}
use Rattle.symbols.proofs.Finding.{register_answers}
use Rattle.orders.specs.Rules.{apply_to}
use Rattle.orders.specs.Promises.{fit_number}
use Rattle.orders.specs.declared.Unfit.{Unfit}
use Rattle.book.specs.State.{Symbol, View, Next, view, entry_of, place_in, symbol_in, live_of, live_in}
use Rattle.book.specs.Step.{change_of, deal_of, enacted, meeting, act_at, act_on, meant, step_on, step_of, step_in}
use Rattle.book.specs.Registering.{started, register_of, told_number}
use Rattle.book.specs.Promises.{unchanging, staling, Steps}
use Rattle.book.specs.Walk.{landing, stopping, offset_by, move_by, move_of, walk_of, run_of, Moves}
use Rattle.book.specs.Reached.{Reached}
use Rattle.book.specs.declared.Book.{Book}
use Rattle.book.specs.declared.Done.{Done}
use Rattle.book.specs.declared.walk.Moved.{Moved}
use Rattle.book.proofs.Answers.{step_answers, four_is_read, quote_answers, quote_refused, volume_answers, volume_refused, told_answers, told_refused}
use Rattle.book.proofs.Isolation.{unregistered_stays, own_symbol, own_symbol_only}
use Rattle.book.proofs.Positions.{position_is_sum, stops_there}
use Rattle.book.proofs.Reaching.{reached_wf, alike}
use Rattle.book.proofs.Refusals.{stale_view}
use Rattle.demands.specs.Reader.{Orders, Effect}
use Rattle.page.specs.Printing.{told}
use Rattle.page.specs.Printout.{closing}
use Rattle.page.proofs.Cases.{bytes_beyond_stay, laid_beyond}
use Rattle.page.proofs.Answers.{laid_answers, line_answers, line_locates, laid_refused, line_refused, laying_answers, only_late, laying_moves}
use Rattle.demands.specs.Demand1.{OneOf, Answers, WireNumbers, RoomNumbers, PageNumbers, Pages, Rooms, BookNumbers, BadThere, Offsets, Buffers, LeavesStale, Refusals, States, Questions, TooFew, no_size, cut, Stays, Passes, Positions, Moving, Demand1}
use Rattle.demands.specs.Demand3.{StandsAt}
use Rattle.demands.proofs.Demand3.{stands_acts}

-- ---- the numbers of `wire`
reach_numbers : (s : List ℕ) → OneOf (0 ∷ 1 ∷ 2 ∷ []) (number_of (reach_of s))
unfolding among
reach_numbers s = go (reach_of s) (reach_refused (OneOf (0 ∷ 1 ∷ 2 ∷ [])) refl refl s)
  where
    go : (x : Outcome ℕ) → ((n : ℕ) → x ≡ refused n → OneOf (0 ∷ 1 ∷ 2 ∷ []) n) → OneOf (0 ∷ 1 ∷ 2 ∷ []) (number_of x)
    go (done n) h = refl
    go (refused n) h = h n refl

read_numbers : (market : Market) (s : List ℕ) → OneOf (0 ∷ 1 ∷ 2 ∷ 3 ∷ 4 ∷ []) (number_of (read_of market s).outcome)
unfolding among
read_numbers market s = go (read_of market s).outcome (read_refused (OneOf (0 ∷ 1 ∷ 2 ∷ 3 ∷ 4 ∷ [])) refl refl refl market s refl)
  where
    go : (x : Outcome Message) → ((n : ℕ) → x ≡ refused n → OneOf (0 ∷ 1 ∷ 2 ∷ 3 ∷ 4 ∷ []) n) → OneOf (0 ∷ 1 ∷ 2 ∷ 3 ∷ 4 ∷ []) (number_of x)
    go (done m) h = refl
    go (refused n) h = h n refl

write_numbers : (market : Market) (m : Message) (plain out : List ℕ) → OneOf (0 ∷ 4 ∷ 15 ∷ []) (number_of (write_of market m plain out).outcome)
unfolding among
write_numbers market m plain out = go (write_of market m plain out).outcome (write_refused market m plain out (OneOf (0 ∷ 4 ∷ 15 ∷ [])) refl refl)
  where
    go : (x : Outcome ℕ) → ((n : ℕ) → x ≡ refused n → OneOf (0 ∷ 4 ∷ 15 ∷ []) n) → OneOf (0 ∷ 4 ∷ 15 ∷ []) (number_of x)
    go (done m) h = refl
    go (refused n) h = h n refl

field_numbers : (market : Market) (m : Message) (plain : List ℕ) → OneOf (0 ∷ 4 ∷ []) (number_of (bad_field_of market m plain).outcome)
unfolding among
field_numbers market m plain = go (fault_in market m plain)
  where
    go : (x : told-of.Option ℕ) → OneOf (0 ∷ 4 ∷ []) (number_of (fault_as x).outcome)
    go None = refl
    go (Some n) = refl

-- ---- the numbers of a message
abbrev of_message : List ℕ
of_message = 0 ∷ 1 ∷ 2 ∷ 3 ∷ 4 ∷ 5 ∷ 6 ∷ 7 ∷ 8 ∷ 9 ∷ 10 ∷ []

move_numbers : (v : View) (s : List ℕ) (at : ℕ) → OneOf of_message (move_of v s at).answer
unfolding move_of among
move_numbers v s at = go (reach_of (drop at s)) refl
  where
    go : (x : Outcome ℕ) → reach_of (drop at s) ≡ x → OneOf of_message (move_by x v s at).answer
    go (done n) e = step_answers (OneOf of_message) (record { acts = record { done = refl; symbol = refl; below = refl; above = refl; stale = refl; fit = refl; room = refl }; size = refl; type = refl; field = refl }) v (drop at s) n e
    go (refused k) e = reach_refused (OneOf of_message) refl refl (drop at s) k e

-- ---- the answers that change nothing
-- a number that is in a list is in a longer one
among_more : (a : ℕ) (l more : List ℕ) → among a l ≡ true → among a (l ++ more) ≡ true
unfolding among
among_more a [] more e = absurd (false≢true e)
among_more a (n ∷ l) more e = go (among_more a l more) (eqb a n) e
  where
    go : (among a l ≡ true → among a (l ++ more) ≡ true) → (here : Bool) → cond here true (among a l) ≡ true → cond here true (among a (l ++ more)) ≡ true
    go ih true h = refl
    go ih false h = ih h

-- a registering that is refused is one that changes nothing
refused_registering : (a : ℕ) → OneOf (0 ∷ 11 ∷ 12 ∷ 13 ∷ []) a → a ≢ 0 → unchanging a ≡ true
unfolding among
refused_registering a h n = go (eqb a 0) (eqb a 11) (eqb a 12) (eqb a 13) refl refl refl refl h
  where
    go : (none known full bad : Bool) → eqb a 0 ≡ none → eqb a 11 ≡ known → eqb a 12 ≡ full → eqb a 13 ≡ bad
        → cond none true (cond known true (cond full true (cond bad true false))) ≡ true → unchanging a ≡ true
    go true known full bad p q r t e = absurd (n (eqb-true a 0 p))
    go false true full bad p q r t e = rw (eqb-true a 11 q)
    go false false true bad p q r t e = rw (eqb-true a 12 r)
    go false false false true p q r t e = rw (eqb-true a 13 t)
    go false false false false p q r t e = absurd (false≢true e)

-- ---- no order changes unless a message is done
abbrev UnlessDone : ℕ → Orders → Orders → Type 0
UnlessDone answer before after = answer ≢ 0 → after ≡ before

ruled_keeps_orders : (s : Symbol) (stale below above : Bool) (x : Fit Orders) (d : _) → UnlessDone (enacted s d (ruled stale below above x)).answer s.orders (enacted s d (ruled stale below above x)).symbol.orders
unfolding enacted ruled
ruled_keeps_orders s true below above x d n = refl
ruled_keeps_orders s false true above x d n = refl
ruled_keeps_orders s false false true x d n = refl
ruled_keeps_orders s false false false misfit d n = refl
ruled_keeps_orders s false false false no_room d n = refl
ruled_keeps_orders s false false false (fits os) d n = absurd (n refl)

meeting_keeps_orders : (s : Symbol) (a : Act Effect) → UnlessDone (meeting s a).answer s.orders (meeting s a).symbol.orders
unfolding meeting
meeting_keeps_orders s (clearing index next) = λ n. absurd (n refl)
meeting_keeps_orders s (numbered index n e) = ruled_keeps_orders s s.entry.standing.stale (ltb n s.entry.standing.expected) (ltb s.entry.standing.expected n) (apply_to s.orders (change_of e)) (deal_of e)

-- of the next view, of all symbols
abbrev NoneChanges : View → Next → Type 0
NoneChanges v x = x.answer ≢ 0 → (i : ℕ) → live_in i x.view ≡ live_in i v

module _ (v : View) (a : Act Effect) where
  own_same : (x : Option Symbol) → symbol_in (index_of a) v ≡ x → (act_at v (place_in (index_of a) v) x a).answer ≢ 0 → live_in (index_of a) (act_on v a).view ≡ live_in (index_of a) v
  own_same none e n = ap (live_in (index_of a)) (unregistered_stays v a e)
  own_same (some s) e n = ap live_of (own_symbol v a s e) ∙ meeting_keeps_orders s a n ∙ sym (ap live_of e)

  act_keeps : NoneChanges v (act_on v a)
  unfolding act_on
  act_keeps n i = go (eqb i (index_of a)) refl
    where
      go : (own : Bool) → eqb i (index_of a) ≡ own → live_in i (act_on v a).view ≡ live_in i v
      go true e = rw (eqb-true i (index_of a) e) (own_same (symbol_in (index_of a) v) refl n)
      go false e = ap live_of (own_symbol_only v a i (eqb-false i (index_of a) e))

step_keeps : (v : View) (m : List ℕ) → NoneChanges v (step_in v m)
unfolding step_of
step_keeps v m = go (read_of v.market m).outcome
  where
    go : (x : Outcome Message) → NoneChanges v (step_on v x)
    go (done y) = act_keeps v (meant y)
    go (refused a) = λ n i. refl

move_keeps : (v : View) (s : List ℕ) (at : ℕ) → NoneChanges v (move_of v s at)
unfolding move_of
move_keeps v s at = go (reach_of (drop at s))
  where
    go : (x : Outcome ℕ) → NoneChanges v (move_by x v s at)
    go (done n) = step_keeps v (take n (drop at s))
    go (refused a) = λ n i. refl

-- ---- at a position of a stream, by the promise of `apply`
module _ {b : Book} (p : Reached b) {s : List ℕ} {at : ℕ} {r : Moved} (m : Moves b s at r) where
  -- 7, 9 and 10 are answered to a message that was read
  not_staling : (k : ℕ) → ◌≡◌ {A = Bool} (staling k) false → staling k ≡ true → ⊥
  not_staling k e h = false≢true (sym e ∙ h)

  answered : r.answer ≡ (move_of (view b) s at).answer
  answered = (m.obeys (reached_wf p)).answer

  leaves_stale : staling r.answer ≡ true → LeavesStale b s at r
  unfolding among move_of step_of
  leaves_stale h = reaches (reach_of (drop at s)) refl
    where
      reads : (n : ℕ) → reach_of (drop at s) ≡ done n → (x : Outcome Message) → (read_of (view b).market (take n (drop at s))).outcome ≡ x → LeavesStale b s at r
      reads n e (refused k) f =
          let number : r.answer ≡ k = answered ∙ ap (λ (y : Outcome ℕ). (move_by y (view b) s at).answer) e ∙ ap (λ (y : Outcome Message). (step_on (view b) y).answer) f in
          absurd (reached_refused (λ (j : ℕ). staling j ≡ true → ⊥) (not_staling 2 refl) (not_staling 3 refl) (not_staling 4 refl) (view b).market (drop at s) n e k f (rw number at h))
      reads n e (done x) f =
          let here : StandsAt s at (take n (drop at s)) = record { size = n; reaches = e; bytes = refl } in
          let acts = stands_acts (view b) here f in
          record {
            bytes = take n (drop at s);
            stands = here;
            message = x;
            read = f;
            stale = rw ((m.obeys (reached_wf p)).next_view, acts) (stale_view (view b) (meant x) (rw (answered, acts) at h));
          }

      reaches : (x : Outcome ℕ) → reach_of (drop at s) ≡ x → LeavesStale b s at r
      reaches (refused k) e =
          let number : r.answer ≡ k = answered ∙ ap (λ (y : Outcome ℕ). (move_by y (view b) s at).answer) e in
          absurd (reach_refused (λ (j : ℕ). staling j ≡ true → ⊥) (not_staling 1 refl) (not_staling 2 refl) (drop at s) k e (rw number at h))
      reaches (done n) e = reads n e (read_of (view b).market (take n (drop at s))).outcome refl

  -- the message that stands there is the one that reaches from there
  bytes_there : (n : ℕ) → reach_of (drop at s) ≡ done n → {k : ℕ} (x : BadThere (view b).market s at k) → take n (drop at s) ≡ x.bytes
  bytes_there n e x = ap (λ (y : Outcome ℕ). taken y) (sym e ∙ x.stands.reaches) ∙ x.stands.bytes
    where
      taken : Outcome ℕ → List ℕ
      taken (done j) = take j (drop at s)
      taken (refused j) = []

  -- a 4 is reading's, and so is its offset
  apply_locates : Locates (BadThere (view b).market s at) r.answer r.offset
  unfolding move_of
  apply_locates = go (reach_of (drop at s)) refl
    where
      go : (x : Outcome ℕ) → reach_of (drop at s) ≡ x → Locates (BadThere (view b).market s at) r.answer r.offset
      go (refused k) e =
          let number : r.answer ≡ k = answered ∙ ap (λ (y : Outcome ℕ). (move_by y (view b) s at).answer) e in
          record {
            bad_field = λ four. absurd (reach_refused (λ (j : ℕ). j ≢ 4) (λ z. omega (arith, z)) (λ z. omega (arith, z)) (drop at s) k e (sym number ∙ four));
            answered = λ j x. absurd (done_is_not_refused (sym e ∙ x.stands.reaches));
            no_field = λ other. m.offset ∙ ap (λ (y : Outcome ℕ). offset_by y (view b).market s at) e;
          }
      go (done n) e =
          let d = read_of (view b).market (take n (drop at s)) in
          let number : r.answer ≡ (step_of (view b) d).answer = answered ∙ ap (λ (y : Outcome ℕ). (move_by y (view b) s at).answer) e in
          let offset : r.offset ≡ d.offset = m.offset ∙ ap (λ (y : Outcome ℕ). offset_by y (view b).market s at) e in
          let read = read_locates (view b).market (take n (drop at s)) in
          let four = four_is_read (view b) d in
          record {
            bad_field = λ z. record { bytes = take n (drop at s); stands = record { size = n; reaches = e; bytes = refl }; first = rw offset (read.bad_field (four.0 (sym number ∙ z))) };
            answered = λ j x. let found = read.answered j (rw (bytes_there n e x) x.first) in (number ∙ four.1 found.0, offset ∙ found.1);
            no_field = λ other. offset ∙ read.no_field (λ z. other (number ∙ four.1 z));
          }

  -- how far it moves, by what reaches from there
  stays : (n : ℕ) → reach_of (drop at s) ≡ refused n → Stays n at r
  stays n e =
      let stops : r.stops ≡ true = m.stops ∙ ap stopping e in
      record { number = ap (λ (x : Moved). x.answer) (m.stopped stops) ∙ ap (number_of {A = ℕ}) e; position = m.at ∙ ap (λ (x : Outcome ℕ). landing x at) e; stops = stops }

  not_one : (n : ℕ) → reach_of (drop at s) ≡ done n → r.answer ≢ 1
  unfolding move_of
  not_one n e one =
      step_answers (λ (k : ℕ). k ≢ 1)
      (record { acts = record { done = λ z. omega (arith, z); symbol = λ z. omega (arith, z); below = λ z. omega (arith, z); above = λ z. omega (arith, z); stale = λ z. omega (arith, z); fit = λ z. omega (arith, z); room = λ z. omega (arith, z) }; size = λ z. omega (arith, z); type = λ z. omega (arith, z); field = λ z. omega (arith, z) })
      (view b) (drop at s) n e (sym (answered ∙ ap (λ (y : Outcome ℕ). (move_by y (view b) s at).answer) e) ∙ one)

  passes : (n : ℕ) → reach_of (drop at s) ≡ done n → Passes (msg_size (drop at s)) at r
  passes n e =
      let size = (reached (drop at s) n e).size in
      record { number = not_one n e; position = rw size (m.at ∙ ap (λ (x : Outcome ℕ). landing x at) e); goes_on = m.stops ∙ ap stopping e }

  short : TooFew (drop at s) → Stays 1 at r
  short (no_size h) = stays 1 (reach_short (drop at s) h)
  short (cut least more) = go (ltb (length (drop at s)) least_size) refl
    where
      go : (few : Bool) → ltb (length (drop at s)) least_size ≡ few → Stays 1 at r
      go true e = stays 1 (reach_short (drop at s) (ltb-true (length (drop at s)) least_size e))
      go false e = stays 1 (reach_beyond (drop at s) (ltb-false (length (drop at s)) least_size e) least more)

  small : least_size ≤ length (drop at s) → msg_size (drop at s) < least_size → Stays 2 at r
  small four below = stays 2 (reach_small (drop at s) four below)

  there : least_size ≤ msg_size (drop at s) → msg_size (drop at s) ≤ length (drop at s) → Passes (msg_size (drop at s)) at r
  there least all = passes (msg_size (drop at s)) (reach_size (drop at s) (omega (arith, least, all)) least all)

  one_stays : r.answer ≡ 1 → Stays 1 at r
  one_stays one = go (reach_of (drop at s)) refl
    where
      go : (x : Outcome ℕ) → reach_of (drop at s) ≡ x → Stays 1 at r
      go (done n) e = absurd (not_one n e one)
      go (refused n) e = let y = stays n e in record { number = one; position = y.position; stops = y.stops }

  -- where nothing is reached, the answer is 1 or a 2 with a Msg Size below 4
  unreached : (r.answer ≢ 1) → (r.answer ≡ 2 → least_size ≤ msg_size (drop at s)) → (n : ℕ) → reach_of (drop at s) ≡ refused n → ⊥
  unreached not more n e = go (ltb (length (drop at s)) least_size) (ltb (msg_size (drop at s)) least_size) (ltb (length (drop at s)) (msg_size (drop at s))) refl refl refl
    where
      go : (few below beyond : Bool) → ltb (length (drop at s)) least_size ≡ few → ltb (msg_size (drop at s)) least_size ≡ below → ltb (length (drop at s)) (msg_size (drop at s)) ≡ beyond → ⊥
      go true below beyond q t u = not (short (no_size (ltb-true (length (drop at s)) least_size q))).number
      go false true beyond q t u =
          let four = ltb-false (length (drop at s)) least_size q in
          let less = ltb-true (msg_size (drop at s)) least_size t in
          omega (arith, less, more (small four less).number)
      go false false true q t u = not (short (cut (ltb-false (msg_size (drop at s)) least_size t) (ltb-true (length (drop at s)) (msg_size (drop at s)) u))).number
      go false false false q t u =
          let reach = reach_size (drop at s) (ltb-false (length (drop at s)) least_size q) (ltb-false (msg_size (drop at s)) least_size t) (ltb-false (length (drop at s)) (msg_size (drop at s)) u) in
          done_is_not_refused (sym e ∙ reach)

  others_move : (r.answer ≢ 1) → (r.answer ≡ 2 → least_size ≤ msg_size (drop at s)) → Passes (msg_size (drop at s)) at r
  others_move not more = go (reach_of (drop at s)) refl
    where
      go : (x : Outcome ℕ) → reach_of (drop at s) ≡ x → Passes (msg_size (drop at s)) at r
      go (done n) e = passes n e
      go (refused n) e = absurd (unreached not more n e)

-- ---- the rooms
tell_numbers : (e : Option Entry) → OneOf (0 ∷ 5 ∷ []) (told_number (told_of e))
unfolding told_of among
tell_numbers none = refl
tell_numbers (some e) = refl

turn_numbers : (e : Option Entry) (number : ℕ) → OneOf (0 ∷ 5 ∷ 6 ∷ 7 ∷ 8 ∷ []) (turn_at e number)
unfolding turn_at ruled among
turn_numbers none number = refl
turn_numbers (some e) number = go e.standing.stale (ltb number e.standing.expected) (ltb e.standing.expected number)
  where
    go : (stale below above : Bool) → OneOf (0 ∷ 5 ∷ 6 ∷ 7 ∷ 8 ∷ []) (turn_answer stale below above)
    go true below above = refl
    go false true above = refl
    go false false true = refl
    go false false false = refl

fit_numbers : (r : Result (Unit {0}) Unfit) → OneOf (0 ∷ 9 ∷ 10 ∷ []) (fit_number r)
unfolding among
fit_numbers (Ok x) = refl
fit_numbers (Err Unfit.Misfit) = refl
fit_numbers (Err Unfit.NoRoom) = refl

-- what is refused leaves the symbols
register_leaves : (b : Symbols) (r : Result Symbols RegisterError) → answer_of register_number r ≢ 0 → after b r ≡ b
register_leaves b (Ok s) n = absurd (n refl)
register_leaves b (Err e) n = refl

-- ---- DEMAND 1
module _ {b : Book} (p : Reached b) where
  registering_number : {r : Done} (index : ℕ) (name : List ℕ) (scale : ℕ) → Steps b (register_of (view b) index name scale) r → Answers (0 ∷ 11 ∷ 12 ∷ 13 ∷ []) (register_of (view b) index name scale).answer r.answer
  registering_number index name scale m =
      let number = (m.obeys (reached_wf p)).answer in
      record { one_of = rw number (register_answers entry_of started (view b).places index name scale); by_rule = number }

  room_numbers : RoomNumbers
  room_numbers = record {
    registering = λ {b = c} index name scale m. rw m.answer (register_answers itself itself (entries c) index name scale);
    telling = tell_numbers;
    turning = turn_numbers;
    fitting = fit_numbers;
  }

  rooms : Rooms
  rooms = record { registering = λ {b = c} {r = r} index name scale m. register_leaves c r; changing = λ k m. m.kept; dealing = λ k m. m.kept }

  wire_numbers : WireNumbers
  wire_numbers = record { reaching = reach_numbers; reading = read_numbers; testing = field_numbers; writing = write_numbers }

  book_numbers : BookNumbers b
  unfolding among
  book_numbers = record {
    registering = registering_number;
    applying = λ {s = s} {at = at} m. record { one_of = rw (answered p m) (move_numbers (view b) s at); by_rule = answered p m };
    running = λ {s = s} {at = at} m. record { one_of = rw m.answer (reach_refused (OneOf (1 ∷ 2 ∷ [])) refl refl (drop (walk_of s at).at s) (walk_of s at).answer (stops_there s at)); by_rule = m.answer };
    quoting = quote_answers (view b);
    summing = volume_answers (view b);
    telling = λ index t. rw t (told_answers (view b) index);
  }

  buffers : Buffers
  buffers = record {
    reading = read_zeros;
    writing = λ market m plain out n e. (write_untouched market m plain out n e, ap count_of e);
    beyond = write_fills;
  }

  offsets : Offsets b
  offsets = record {
    reading = read_locates;
    testing = field_locates;
    writing = write_locates;
    printing = λ m plain sequence second out. line_locates (view b).market m plain (told b m) sequence second out;
    applying = λ m. apply_locates p m;
  }

  page_numbers : PageNumbers b
  page_numbers = record {
    printing = λ m plain sequence second out. line_answers (view b).market (told b m) m plain sequence second out;
    laying = λ x. laying_answers (reached_wf p) x;
    ending = λ index answer out. laid_answers (closing (view b) index answer) out;
  }

  pages : Pages b
  pages = record {
    printing = λ m plain sequence second out. record {
      refused_untouched = λ n e. (line_refused (view b).market (told b m) m plain sequence second out n e, ap count_of e);
      beyond = bytes_beyond_stay (view b).market (told b m) m plain sequence second out;
    };
    ending = λ index answer out. record {
      refused_untouched = λ n e. (laid_refused (closing (view b) index answer) out n e, ap count_of e);
      beyond = laid_beyond (closing (view b) index answer) out;
    };
    late = λ x e. x.late (only_late (reached_wf p) x e);
    beyond = λ x. x.beyond;
    moves_on = λ x. laying_moves (reached_wf p) x;
  }

  refusals : Refusals b
  refusals = record {
    unchanged = λ {r = r} m h. m.kept (among_more r.answer (1 ∷ 2 ∷ 3 ∷ 4 ∷ 5 ∷ 6 ∷ 8 ∷ []) (11 ∷ 12 ∷ 13 ∷ []) h);
    made_stale = λ m. leaves_stale p m;
    no_order_changes = λ {s = s} {at = at} m n index. ap (live_in index) (m.obeys (reached_wf p)).next_view ∙ move_keeps (view b) s at (λ z. n (answered p m ∙ z)) index;
  }

  states : States b
  unfolding run_of
  states = record {
    registering = λ index name scale m n. m.kept (refused_registering _ (registering_number index name scale m).one_of n);
    running = λ m. (m.obeys (reached_wf p)).next_view;
    unmoved = λ m. m.kept;
  }

  questions : Questions b
  unfolding told_of
  questions = record {
    quoting = quote_refused (view b);
    summing = volume_refused (view b);
    telling = λ index t n. t ∙ told_refused (view b) index (λ z. n (ap told_number t ∙ z));
  }

  positions : Positions b
  positions = record { short = λ m. short p m; small = λ m. small p m; there = λ m. there p m }

  moving : Moving b
  moving = record {
    one_stays = λ m. one_stays p m;
    others_move = λ m. others_move p m;
    running = λ {s = s} {from = from} {r = r} m. position_is_sum b s from r m;
    stopped = λ {s = s} {from = from} m. rw (m.at, m.answer) (stops_there s from);
  }

  pub demand_1_holds : Demand1 b
  demand_1_holds = record {
    wire_numbers = wire_numbers;
    room_numbers = room_numbers;
    book_numbers = book_numbers;
    page_numbers = page_numbers;
    offsets = offsets;
    buffers = buffers;
    pages = pages;
    rooms = rooms;
    refusals = refusals;
    states = states;
    questions = questions;
    positions = positions;
    moving = moving;
    same = alike b b (reached_wf p) (reached_wf p) refl;
  }

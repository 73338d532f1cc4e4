-- A move goes by the Msg Size, within the bytes, so a walk has messages enough to spare; the run's loop has walked some of it and has the rest to go.
use Rattle.std.specs.Prelude.{Result, Ok, Err}
use mathlib.Core.Bool.{true, false, true≢false, false≢true}
use mathlib.Core.List.{List, [], ◌∷◌, ◌++◌, append-nil}
use mathlib.Core.Path.{◌≡◌, refl, sym, ap, ◌∙◌, subst}
use Prim.Native.Nat.{ℕ, zero, suc, ◌+◌, ◌-◌, ◌<◌, ◌≤◌}
use native.Mathlib.Omega.{arith}
use native.Mathlib.Nat.{add-zero, zero-add, add-suc, suc-add, add-sub_cancel_left}
use lib.ListN.{length, take, drop, set, length-append, length-drop, length-set}
use lib.Seq.{append_snoc, drop-drop, drop-set-lt, sets}
use Rattle.wire.specs.Outcome.{Outcome, done, refused, number_of, told_by}
use Rattle.wire.specs.Reading.{reached_as, answered_as, unreached_as, Read, reach_of, read_of, decoded_as}
use Rattle.wire.specs.declared.Decoded.{Decoded}
use Rattle.wire.specs.declared.ReachError.{ReachError}
use Rattle.wire.specs.declared.ReadError.{ReadError}
use Rattle.wire.proofs.Cases.{reached}
use Rattle.book.specs.State.{View, Next, view, Wf}
use Rattle.book.specs.Step.{step_of, step_in}
use Rattle.book.specs.Promises.{Steps}
use Rattle.book.specs.Walk.{Walk, landing, stopping, offset_by, move_of, walk_for, walk_up_to, walk_of, steps_of, answers_of, run_of, Moves, Runs, NotesUpTo}
use Rattle.markets.specs.declared.Market.{Market}
use Rattle.book.specs.declared.Book.{Book}
use Rattle.book.specs.declared.Done.{Done}
use Rattle.book.specs.declared.walk.Moved.{Moved}
use Rattle.book.specs.declared.walk.Noted.{Noted}

-- ---- one message
-- the offset that its reading tells
pub offset_read : (d : Result Decoded ReadError) → told_by (λ e. (answered_as (Err e)).offset) d ≡ (decoded_as d).offset
offset_read (Ok d) = refl
offset_read (Err e) = refl

-- document 01's number of what is not reached is that of its reading
pub unreached : (e : ReachError) → reached_as (Err e) ≡ refused (number_of (answered_as (Err (unreached_as e))).outcome)
unreached ReachError.Short = refl
unreached ReachError.Small = refl

pub move_within : (s : List ℕ) (at n : ℕ) → reach_of (drop at s) ≡ done n → at + n ≤ length s
move_within s at n e = omega (arith, (reached (drop at s) n e).least, (reached (drop at s) n e).there, length-drop at s)

module _ (b : Book) (s : List ℕ) (at : ℕ) where
  -- a stop leaves all as it was
  pub move_stops : (a : ℕ) → reach_of (drop at s) ≡ refused a → Moves b s at (record { book = b; at = at; answer = a; offset = 0; stops = true })
  unfolding move_of
  move_stops a e = record {
    at = rw e;
    offset = rw e;
    stops = rw e;
    market = refl;
    stopped = λ t. rw e;
    kept = λ t. refl;
    obeys = λ w. record { wf = w; next_view = rw e; answer = rw e };
  }

  pub move_goes : (n : ℕ) → reach_of (drop at s) ≡ done n → (d : Result Decoded ReadError) (r : Done) → decoded_as d ≡ read_of (view b).market (take n (drop at s)) → Steps b (step_of (view b) (decoded_as d)) r → (o : ℕ) → o ≡ (decoded_as d).offset
      → Moves b s at (record { book = r.book; at = at + n; answer = r.answer; offset = o; stops = false })
  unfolding move_of
  move_goes n e d r q p o is = record {
    at = rw e;
    offset = rw e (is ∙ ap (λ (x : Read). x.offset) q);
    stops = rw e;
    market = p.market;
    stopped = λ t. absurd (false≢true t);
    kept = p.kept;
    obeys = λ w. rw (e, ← q) (p.obeys w);
  }

-- ---- the run. Steps over two lists, one behind the other, are the steps over both
pub steps_join : (v : View) (ms ns : List (List ℕ)) → steps_of v (ms ++ ns) ≡ steps_of (steps_of v ms) ns
unfolding steps_of
steps_join v [] ns = refl
steps_join v (m ∷ ms) ns = steps_join (step_in v m).view ms ns

module _ (c : Book) (s : List ℕ) (at : ℕ) (r : Moved) (m : Moves c s at r) where
  -- whether it stopped, by what reaches from here
  stops_by : (x : Outcome ℕ) → reach_of (drop at s) ≡ x → r.stops ≡ stopping x
  stops_by x e = m.stops ∙ ap stopping e

  pub goes_on : r.stops ≡ false → (at < r.at) × (r.at ≤ length s)
  goes_on f = go (reach_of (drop at s)) refl
    where
      go : (x : Outcome ℕ) → reach_of (drop at s) ≡ x → (at < r.at) × (r.at ≤ length s)
      go (refused a) e = absurd (true≢false (sym (stops_by (refused a) e) ∙ f))
      go (done n) e =
          let l = (reached (drop at s) n e).least in
          let to : r.at ≡ at + n = m.at ∙ ap (λ (x : Outcome ℕ). landing x at) e in
          (omega arith, omega (arith, move_within s at n e))

  -- the bytes passed are the message's, and so is the offset
  pub passed_bytes : (n : ℕ) → reach_of (drop at s) ≡ done n → take (r.at - at) (drop at s) ≡ take n (drop at s)
  passed_bytes n e = ap (λ (j : ℕ). take j (drop at s)) (ap (λ (j : ℕ). j - at) (m.at ∙ ap (λ (x : Outcome ℕ). landing x at) e) ∙ add-sub_cancel_left at n)

  pub passed_offset : r.stops ≡ false → r.offset ≡ (read_of (view c).market (take (r.at - at) (drop at s))).offset
  passed_offset f = go (reach_of (drop at s)) refl
    where
      go : (x : Outcome ℕ) → reach_of (drop at s) ≡ x → r.offset ≡ (read_of (view c).market (take (r.at - at) (drop at s))).offset
      go (refused a) e = absurd (true≢false (sym (stops_by (refused a) e) ∙ f))
      go (done n) e = m.offset ∙ ap (λ (x : Outcome ℕ). offset_by x (view c).market s at) e ∙ ap (λ (t : List ℕ). (read_of (view c).market t).offset) (sym (passed_bytes n e))

-- ---- answers
pub length_answers : (v : View) (ms : List (List ℕ)) → length (answers_of v ms) ≡ length ms
unfolding answers_of
length_answers v [] = refl
length_answers v (m ∷ ms) = ap suc (length_answers (step_in v m).view ms)

pub answers_join : (v : View) (ms ns : List (List ℕ)) → answers_of v (ms ++ ns) ≡ answers_of v ms ++ answers_of (steps_of v ms) ns
unfolding answers_of steps_of
answers_join v [] ns = refl
answers_join v (m ∷ ms) ns = ap (λ (l : List ℕ). (step_in v m).answer ∷ l) (answers_join (step_in v m).view ms ns)

sets_snoc : (l : List ℕ) (i : ℕ) (vs : List ℕ) (a : ℕ) → sets l i (vs ++ (a ∷ [])) ≡ set (sets l i vs) (i + length vs) a
sets_snoc l i [] a = ap (λ (j : ℕ). set l j a) (sym (add-zero i))
sets_snoc l i (v ∷ vs) a = sets_snoc (set l i v) (suc i) vs a ∙ ap (λ (j : ℕ). set (sets (set l i v) (suc i) vs) j a) (suc-add i (length vs) ∙ sym (add-suc i (length vs)))

drop_one : (n : ℕ) (l : List ℕ) → drop (n + 1) l ≡ drop 1 (drop n l)
drop_one n l = sym (drop-drop 1 n l)

-- ---- so many messages of a walk are passed, and at most so many are to go
pub record Left (s : List ℕ) (from most : ℕ) (before : List ℕ) (b : Book) (at count : ℕ) (notes : List ℕ) (c : Book) : Type 0 where
  pub fuel : ℕ
  pub spent : count + fuel ≡ most
  pub passed : List (List ℕ)
  pub counted : length passed ≡ count
  pub long : length notes ≡ length before
  pub same_end : (walk_up_to fuel s at).at ≡ (walk_up_to most s from).at
  pub same_answer : (walk_up_to fuel s at).answer ≡ (walk_up_to most s from).answer
  pub split : passed ++ (walk_up_to fuel s at).messages ≡ (walk_up_to most s from).messages
  pub onward : from ≤ at
  pub still : at ≡ from → c ≡ b
  pub same_market : (view c).market ≡ (view b).market
  pub beyond : drop count notes ≡ drop count before
  pub sound : Wf b → Wf c
  pub same_view : Wf b → view c ≡ steps_of (view b) passed
  pub noted : Wf b → notes ≡ sets before 0 (answers_of (view b) passed)

pub left_all : (s : List ℕ) (from most : ℕ) (before : List ℕ) (b : Book) → Left s from most before b from 0 before b
unfolding steps_of answers_of
left_all s from most before b = record {
  fuel = most;
  spent = zero-add most;
  passed = [];
  counted = refl;
  long = refl;
  same_end = refl;
  same_answer = refl;
  split = refl;
  onward = omega arith;
  still = λ e. refl;
  same_market = refl;
  beyond = refl;
  sound = λ w. w;
  same_view = λ w. refl;
  noted = λ w. refl;
}

module _ (s : List ℕ) (from most : ℕ) (before : List ℕ) (b : Book) (at count : ℕ) (notes : List ℕ) (c : Book) (l : Left s from most before b at count notes c) where
  -- nothing more: of the walk nothing is to go
  ends : (a : ℕ) → walk_up_to l.fuel s at ≡ record { messages = []; at = at; answer = a } → NotesUpTo b s from most before (record { book = c; at = at; answer = a; count = count }) notes
  ends a e =
      let whole : l.passed ≡ (walk_up_to most s from).messages = sym (append-nil l.passed) ∙ (rw e at l.split) in
      record {
        at = rw e at l.same_end;
        answer = rw e at l.same_answer;
        count = sym l.counted ∙ ap (λ (ms : List (List ℕ)). length ms) whole;
        market = l.same_market;
        kept = l.still;
        beyond = l.beyond;
        obeys = λ w. record { wf = l.sound w; next_view = l.same_view w ∙ ap (steps_of (view b)) whole; noted = l.noted w ∙ ap (λ (ms : List (List ℕ)). sets before 0 (answers_of (view b) ms)) whole };
      }

  pub turn_stops : (a : ℕ) → reach_of (drop at s) ≡ refused a → NotesUpTo b s from most before (record { book = c; at = at; answer = a; count = count }) notes
  unfolding walk_up_to
  turn_stops a e = ends a (go l.fuel)
    where
      go : (f : ℕ) → walk_up_to f s at ≡ record { messages = []; at = at; answer = a }
      go zero = rw e
      go (suc f) = rw e

  -- as many as there may be
  pub turn_full : (n : ℕ) → reach_of (drop at s) ≡ done n → most ≤ count → NotesUpTo b s from most before (record { book = c; at = at; answer = 15; count = count }) notes
  unfolding walk_up_to
  turn_full n e h = ends 15 (go l.fuel l.spent)
    where
      go : (f : ℕ) → count + f ≡ most → walk_up_to f s at ≡ record { messages = []; at = at; answer = 15 }
      go zero z = rw e
      go (suc f) z = absurd (omega (arith, z, h))

  module _ (n : ℕ) (e : reach_of (drop at s) ≡ done n) where
    pub turn_less : length s - (at + n) < length s - at
    turn_less = omega (arith, move_within s at n e, (reached (drop at s) n e).least)

    -- one more is done
    module _ (d : Result Decoded ReadError) (market : Market) (is : market ≡ (view b).market) (q : decoded_as d ≡ read_of market (take (at + n - at) (drop at s))) (r : Done) (p : Steps c (step_of (view c) (decoded_as d)) r) (fresh : count < most) where
      abbrev message : List ℕ
      message = take n (drop at s)

      read : step_of (view c) (decoded_as d) ≡ step_in (view c) message
      read = ap (step_of (view c)) (q ∙ (λ i. read_of ((is ∙ sym l.same_market) i) (take (add-sub_cancel_left at n i) (drop at s))))

      step_is : Wf b → step_of (view c) (decoded_as d) ≡ step_in (steps_of (view b) l.passed) message
      step_is w = read ∙ ap (λ (v : View). step_in v message) (l.same_view w)

      -- m is what the notes are then
      pub turn_on : (m : List ℕ) → m ≡ set notes count r.answer → Left s from most before b (at + n) (count + 1) m r.book
      unfolding walk_up_to steps_of answers_of
      turn_on m is_set = subst (λ (z : List ℕ). Left s from most before b (at + n) (count + 1) z r.book) (sym is_set) (go l.fuel l.spent l.same_end l.same_answer l.split)
        where
          go : (f : ℕ) → count + f ≡ most → (walk_up_to f s at).at ≡ (walk_up_to most s from).at → (walk_up_to f s at).answer ≡ (walk_up_to most s from).answer → l.passed ++ (walk_up_to f s at).messages ≡ (walk_up_to most s from).messages
              → Left s from most before b (at + n) (count + 1) (set notes count r.answer) r.book
          go zero z x y t = absurd (omega (arith, z, fresh))
          go (suc g) z x y t = record {
            fuel = g;
            spent = omega (arith, z);
            passed = l.passed ++ (message ∷ []);
            counted = length-append l.passed (message ∷ []) ∙ ap (λ (j : ℕ). j + 1) l.counted;
            long = length-set notes count r.answer ∙ l.long;
            same_end = (rw e at x);
            same_answer = (rw e at y);
            split = append_snoc l.passed message (walk_up_to g s (at + n)).messages ∙ (rw e at t);
            onward = omega (arith, l.onward);
            still = λ same. absurd (omega (arith, l.onward, same, (reached (drop at s) n e).least));
            same_market = p.market ∙ l.same_market;
            beyond = drop-set-lt (count + 1) notes count r.answer (omega arith) ∙ drop_one count notes ∙ ap (drop 1) l.beyond ∙ sym (drop_one count before);
            sound = λ w. (p.obeys (l.sound w)).wf;
            same_view = λ w. (p.obeys (l.sound w)).next_view ∙ ap (λ (y : Next). y.view) (step_is w) ∙ sym (steps_join (view b) l.passed (message ∷ []));
            noted = λ w.
                let told : r.answer ≡ (step_in (steps_of (view b) l.passed) message).answer = (p.obeys (l.sound w)).answer ∙ ap (λ (y : Next). y.answer) (step_is w) in
                rw (told, l.noted w) (sym (ap (sets before 0) (answers_join (view b) l.passed (message ∷ [])) ∙ sets_snoc before 0 (answers_of (view b) l.passed) _ ∙ ap (λ (j : ℕ). set (sets before 0 (answers_of (view b) l.passed)) j (step_in (steps_of (view b) l.passed) message).answer) (zero-add (length (answers_of (view b) l.passed)) ∙ length_answers (view b) l.passed ∙ l.counted)));
          }

-- ---- a walk of at most as many messages as there are bytes is the whole walk
walk_by_lem : (s : List ℕ) (f g at : ℕ) (x : Outcome ℕ) → reach_of (drop at s) ≡ x → length s ≤ at + f → length s < at + g → 0 < g → walk_up_to f s at ≡ walk_for g s at
unfolding walk_up_to walk_for
walk_by_lem s f zero at x e h i pos = absurd (omega (arith, pos))
walk_by_lem s zero (suc g) at (refused a) e h i pos = rw e
walk_by_lem s (suc f) (suc g) at (refused a) e h i pos = rw e
walk_by_lem s zero (suc g) at (done n) e h i pos = absurd (omega (arith, h, move_within s at n e, (reached (drop at s) n e).least))
walk_by_lem s (suc f) (suc g) at (done n) e h i pos =
    let least = (reached (drop at s) n e).least in
    rw e (ap (λ (w : Walk). record { messages = take n (drop at s) ∷ w.messages; at = w.at; answer = w.answer }) (walk_by_lem s f g (at + n) (reach_of (drop (at + n) s)) refl (omega (arith, h, least)) (omega (arith, i, least)) (omega (arith, i, move_within s at n e, least))))

walk_enough : (s : List ℕ) (f g at : ℕ) → length s ≤ at + f → length s < at + g → 0 < g → walk_up_to f s at ≡ walk_for g s at
walk_enough s f g at = walk_by_lem s f g at (reach_of (drop at s)) refl

pub runs_all : (b : Book) (s : List ℕ) (from most : ℕ) (before : List ℕ) (r : Noted) (after : List ℕ) → length s ≤ most → NotesUpTo b s from most before r after → Runs b s from (record { book = r.book; at = r.at; answer = r.answer })
unfolding walk_of run_of
runs_all b s from most before r after h p =
    let e : walk_up_to most s from ≡ walk_of s from = walk_enough s most (suc (length s)) from (omega (arith, h)) (omega arith) (omega arith) in
    record {
      at = p.at ∙ ap (λ (w : Walk). w.at) e;
      answer = p.answer ∙ ap (λ (w : Walk). w.answer) e;
      market = p.market;
      kept = p.kept;
      obeys = λ w. record { wf = (p.obeys w).wf; next_view = (p.obeys w).next_view ∙ ap (λ (x : Walk). steps_of (view b) x.messages) e; answer = p.answer ∙ ap (λ (x : Walk). x.answer) e };
    }

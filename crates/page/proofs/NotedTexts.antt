-- Texts laid by notes: none yet, and one message more; and where a walk goes on behind the messages that have theirs.
use Rattle.std.proofs.Common.{◌≡◌, ℕ, suc, ◌+◌, ◌-◌, ◌<◌, ◌≤◌, List, [], ◌∷◌, ◌++◌, length, get_or, take, drop, sym, refl, ap, ◌∙◌, subst, append_assoc, append-nil, add-zero, zero-add, arith, length-append, take-append-drop, length-take-le, le-ltb}
use lib.Seq.{append_snoc, get_or-append_seam}
use Rattle.wire.specs.Outcome.{Outcome, done}
use Rattle.wire.specs.Reading.{reach_of, read_of}
use Rattle.wire.proofs.Cases.{reached}
use Rattle.markets.specs.declared.Market.{Market}
use Rattle.symbols.specs.declared.Symbols.{Symbols}
use Rattle.book.specs.State.{View}
use Rattle.book.specs.Step.{step_in}
use Rattle.book.specs.Walk.{Walk, walk_by, steps_of, answers_of, Notes}
use Rattle.book.specs.declared.Book.{Book}
use Rattle.book.specs.declared.walk.Noted.{Noted}
use Rattle.book.proofs.Walking.{move_within, steps_join, length_answers, answers_join}
use Rattle.book.proofs.OneMarket.{steps_market}
use Rattle.book.proofs.SameNames.{told_step, told_steps}
use Rattle.columns.specs.Held.{room}
use Rattle.page.specs.Printing.{Appends}
use Rattle.page.specs.Printout.{passed_text, next_place}
use Rattle.page.specs.Laying.{Sheet, more, lay_from, Passes, none_yet, one_more, Tells, Answered, Front, LaysOne, sheet_of, SoFar, RunsSome}
use borrow.Rule.Slice.PartMut.{put_mid}
use Rattle.page.proofs.Cases.{appends_behind}
use Rattle.page.proofs.Sheets.{front_more}

-- ---- messages passed one behind the other: a walk of them and some more goes on behind them. Of any walk that counts its messages down
module _ (walk : ℕ → List ℕ → ℕ → Walk) (counts : (f : ℕ) (s : List ℕ) (at : ℕ) → walk (suc f) s at ≡ walk_by (reach_of (drop at s)) s at (λ e. walk f s e)) (s : List ℕ) (from : ℕ) where
  pub passes_on : {ms : List (List ℕ)} {here : ℕ} → Passes s from ms here → (f : ℕ) → walk (length ms + f) s from ≡ record { messages = ms ++ (walk f s here).messages; at = (walk f s here).at; answer = (walk f s here).answer }
  passes_on none_yet f = ap (λ (k : ℕ). walk k s from) (zero-add f)
  passes_on (one_more {ms} {here} {n} p e) f =
      let m = take n (drop here s) in
      let long : length (ms ++ (m ∷ [])) + f ≡ length ms + suc f = ap (λ (k : ℕ). k + f) (length-append ms (m ∷ [])) ∙ (omega arith) in
      let next : walk (suc f) s here ≡ record { messages = m ∷ (walk f s (here + n)).messages; at = (walk f s (here + n)).at; answer = (walk f s (here + n)).answer } = counts f s here ∙ ap (λ (x : Outcome ℕ). walk_by x s here (λ k. walk f s k)) e in
      ap (λ (k : ℕ). walk k s from) long
      ∙ passes_on p (suc f)
      ∙ (λ i. record { messages = ms ++ (next i).messages; at = (next i).at; answer = (next i).answer })
      ∙ (λ i. record { messages = sym (append_snoc ms m (walk f s (here + n)).messages) i; at = (walk f s (here + n)).at; answer = (walk f s (here + n)).answer })

-- each has bytes of its own, within the stream
pub passes_far : {s : List ℕ} {from : ℕ} {ms : List (List ℕ)} {here : ℕ} → Passes s from ms here → from + length ms ≤ here
passes_far none_yet = omega arith
passes_far {s = s} (one_more {ms} {here} {n} p e) = omega (arith, passes_far p, (reached (drop here s) n e).least, length-append ms (take n (drop here s) ∷ []))

pub passes_within : {s : List ℕ} {from : ℕ} {ms : List (List ℕ)} {here : ℕ} → Passes s from ms here → 0 < length ms → here ≤ length s
passes_within none_yet h = absurd (omega (arith, h))
passes_within {s = s} (one_more {ms} {here} {n} p e) h = move_within s here n e

-- ---- the run over as many messages as there are notes
pub runs_some : (b : Book) (s : List ℕ) (from most : ℕ) (before : List ℕ) (r : Noted) (after : List ℕ) → most ≡ length before → Notes b s from before r after → RunsSome b s from most r
runs_some b s from most before r after e w = rw e (record { at = w.at; market = w.market; kept = w.kept; wf = λ x. (w.obeys x).wf; next_view = λ x. (w.obeys x).next_view })

-- ---- nothing laid
pub lays_nothing : (at : ℕ) (before : List ℕ) → Appends [] at before at before
lays_nothing at before = record { count = sym (add-zero at); out = sym (ap (λ (k : ℕ). take at before ++ [] ++ drop k before) (add-zero at) ∙ ap (λ (l : List ℕ). l ++ drop at before) (append-nil (take at before)) ∙ take-append-drop at before) }

-- ---- a text laid to the start of what follows the first bytes is behind them
pub lays_behind : {market : Market} {names : Symbols} {message : List ℕ} {answer place second n : ℕ} {before : List ℕ} {r : ℕ} {after : List ℕ}
    → LaysOne market names message answer place second 0 (take (length before - n) (drop n before)) r after → LaysOne market names message answer place second n before (n + r) (put_mid n (length before - n) before after)
lays_behind o = record { text = o.text; short = o.short; appends = appends_behind o.appends; told = o.told }

-- ---- none yet
module _ (market : Market) (names : Symbols) (s : List ℕ) (from : ℕ) (notes : List ℕ) (place second : ℕ) (before : List ℕ) (filled : ℕ) where
  pub so_far_none : filled ≤ length before → SoFar market names s from notes place second before filled from place filled 0 before
  unfolding steps_of
  so_far_none h = record {
    passed = [];
    passes = none_yet;
    laid = refl;
    most = omega arith;
    inside = h;
    text = [];
    front = record {
      long = ap (λ (l : List ℕ). length l) (append-nil (take filled before)) ∙ length-take-le filled before h;
      within = h;
      shown = sym (ap (λ (l : List ℕ). l ++ drop filled before) (append-nil (take filled before)) ∙ take-append-drop filled before);
    };
    same = λ v is tells a first e stop rest. ap (λ (t : List ℕ). lay_from second (length before) stop (sheet_of v from place t) rest) (sym (append-nil first));
  }

  -- ---- one more
  module _ {here p n j : ℕ} {out : List ℕ} (l : SoFar market names s from notes place second before filled here p n j out) (z : ℕ) (e : reach_of (drop here s) ≡ done z) (q : ℕ) (is : q ≡ next_place p) (fresh : j < length notes) (fits : room ≤ length before - n) (k : ℕ) (after : List ℕ)
      (o : LaysOne market names (take z (drop here s)) (get_or notes j 0) q second n out k after) where
    abbrev message : List ℕ
    message = take z (drop here s)

    abbrev passed : List (List ℕ)
    passed = l.passed

    size : length message ≡ z
    size = length-take-le z (drop here s) (reached (drop here s) z e).there

    front : Front before (take filled before ++ (l.text ++ o.text)) k after
    front = subst (λ (t : List ℕ). Front before t k after) (append_assoc (take filled before) l.text o.text) (front_more before (take filled before ++ l.text) n out o.text k after l.front (omega (arith, fits, o.short, l.front.within)) o.appends)

    module _ (v : View) (named : market ≡ v.market) (tells : Tells names v) (a : Answered v (passed ++ (message ∷ [])) notes) where
      abbrev next : View
      next = (step_in (steps_of v passed) message).view

      noted : notes ≡ answers_of v passed ++ ((step_in (steps_of v passed) message).answer ∷ a.rest)
      unfolding answers_of
      noted = a.are ∙ ap (λ (x : List ℕ). x ++ a.rest) (answers_join v passed (message ∷ [])) ∙ append_snoc (answers_of v passed) (step_in (steps_of v passed) message).answer a.rest

      answer : get_or notes j 0 ≡ (step_in (steps_of v passed) message).answer
      answer =
          ap (λ (i : ℕ). get_or notes i 0) (sym (length_answers v passed ∙ l.laid))
          ∙ ap (λ (x : List ℕ). get_or x (length (answers_of v passed)) 0) noted
          ∙ get_or-append_seam (answers_of v passed) (step_in (steps_of v passed) message).answer a.rest 0

      still : Tells names next
      still i = tells i ∙ sym (told_step i (steps_of v passed) (read_of (steps_of v passed).market message) ∙ told_steps i v passed)

      text : o.text ≡ passed_text (steps_of v passed).market (step_in (steps_of v passed) message) message (next_place p) second
      text = o.told next still ∙ (λ i. passed_text ((named ∙ sym (steps_market v passed)) i) (record { view = next; answer = answer i }) message (is i) second)

      module _ (first : List ℕ) (long : length first ≡ filled) where
        length_now : length (first ++ l.text) ≡ n
        length_now =
            length-append first l.text
            ∙ ap (λ (i : ℕ). i + length l.text) (long ∙ sym (length-take-le filled before l.inside))
            ∙ sym (length-append (take filled before) l.text)
            ∙ l.front.long

        sheet : more second (sheet_of (steps_of v passed) here p (first ++ l.text)) message ≡ sheet_of (steps_of v (passed ++ (message ∷ []))) (here + z) q (first ++ (l.text ++ o.text))
        unfolding steps_of
        sheet = λ i. record {
          view = sym (steps_join v passed (message ∷ [])) i;
          at = here + size i;
          place = sym is i;
          text = (append_assoc first l.text (passed_text (steps_of v passed).market (step_in (steps_of v passed) message) message (next_place p) second) ∙ ap (λ (x : List ℕ). first ++ (l.text ++ x)) (sym text)) i;
        }

        same : (stop : ℕ) (rest : List (List ℕ)) → lay_from second (length before) stop (sheet_of v from place first) ((passed ++ (message ∷ [])) ++ rest) ≡ lay_from second (length before) stop (sheet_of (steps_of v (passed ++ (message ∷ []))) (here + z) q (first ++ (l.text ++ o.text))) rest
        unfolding lay_from
        same stop rest =
            ap (λ (ms : List (List ℕ)). lay_from second (length before) stop (sheet_of v from place first) ms) (append_snoc passed message rest)
            ∙ l.same v named tells (record { rest = (step_in (steps_of v passed) message).answer ∷ a.rest; are = noted }) first long stop (message ∷ rest)
            ∙ (rw (length_now, le-ltb (length before - n) room fits) refl)
            ∙ ap (λ (x : Sheet). lay_from second (length before) stop x rest) sheet

    pub so_far_more : SoFar market names s from notes place second before filled (here + z) q k (j + 1) after
    so_far_more = record {
      passed = passed ++ (message ∷ []);
      passes = one_more l.passes e;
      laid = length-append passed (message ∷ []) ∙ ap (λ (i : ℕ). i + 1) l.laid;
      most = omega (arith, fresh);
      inside = l.inside;
      text = l.text ++ o.text;
      front = front;
      same = same;
    }

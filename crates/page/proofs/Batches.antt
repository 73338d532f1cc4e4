-- A batch of messages: a run noted their answers, and their texts are laid by the notes. What is left of the laying behind those that have their text comes to what all of it does.
use Rattle.std.proofs.Common.{◌≡◌, ℕ, zero, suc, ◌+◌, ◌-◌, ◌<◌, ◌≤◌, Bool, true, false, ltb, List, [], ◌∷◌, ◌++◌, length, drop, sym, refl, ap, ◌∙◌, append_assoc, append-nil, add-zero, arith, length-append, ltb-false, ltb-true}
use lib.Seq.{sets-eq}
use Rattle.wire.specs.Outcome.{Outcome, done, refused}
use Rattle.wire.specs.Reading.{reach_of}
use Rattle.wire.proofs.Answers.{reach_refuses}
use Rattle.markets.specs.declared.Market.{Market}
use Rattle.symbols.specs.declared.Symbols.{Symbols}
use Rattle.book.specs.State.{View, view, Wf}
use Rattle.book.specs.Walk.{Walk, stop_or, walk_by, walk_for, walk_up_to, steps_of, answers_of, Notes}
use Rattle.book.specs.declared.Book.{Book}
use Rattle.book.specs.declared.walk.Noted.{Noted}
use Rattle.book.proofs.Walking.{length_answers, answers_join}
use Rattle.columns.specs.Held.{room}
use Rattle.page.specs.Printing.{last_second}
use Rattle.page.specs.Laying.{lay_from, Lays, Tells, Answered, sheet_of, LaysNoted, RunsSome}
use Rattle.page.specs.declared.laying.Texts.{Texts}
use Rattle.page.proofs.Sheets.{Rest, front_on, rest_stops, rest_full}
use Rattle.page.proofs.NotedTexts.{passes_on, passes_far, passes_within}

-- ---- walks count their messages down
counts_up : (f : ℕ) (s : List ℕ) (at : ℕ) → walk_up_to (suc f) s at ≡ walk_by (reach_of (drop at s)) s at (λ e. walk_up_to f s e)
unfolding walk_up_to
counts_up f s at = refl

counts_for : (f : ℕ) (s : List ℕ) (at : ℕ) → walk_for (suc f) s at ≡ walk_by (reach_of (drop at s)) s at (λ e. walk_for f s e)
unfolding walk_for
counts_for f s at = refl

-- ---- a walk of at most so many, and one that passes none
walk_most : (f : ℕ) (s : List ℕ) (at : ℕ) → length (walk_up_to f s at).messages ≤ f
unfolding walk_up_to
walk_most zero s at = omega arith
walk_most (suc f) s at = go (walk_most f s) (reach_of (drop at s))
  where
    go : ((e : ℕ) → length (walk_up_to f s e).messages ≤ f) → (x : Outcome ℕ) → length (walk_by x s at (λ e. walk_up_to f s e)).messages ≤ suc f
    go ih (refused a) = omega arith
    go ih (done n) = omega (arith, ih (at + n))

walk_refused : (f : ℕ) (s : List ℕ) (at a : ℕ) → reach_of (drop at s) ≡ refused a → length (walk_up_to f s at).messages ≡ 0
unfolding walk_up_to
walk_refused zero s at a e = refl
walk_refused (suc f) s at a e = rw e

abbrev tag : Outcome ℕ → ℕ
tag (done k) = 0
tag (refused a) = 1

record Idle (f : ℕ) (s : List ℕ) (at : ℕ) : Type 0 where
  at_end : (walk_up_to f s at).at ≡ at
  answer : (walk_up_to f s at).answer ≡ stop_or (reach_of (drop at s))
  spent : (k : ℕ) → reach_of (drop at s) ≡ done k → f ≡ 0

idle : (f : ℕ) (s : List ℕ) (at : ℕ) → length (walk_up_to f s at).messages ≡ 0 → Idle f s at
unfolding walk_up_to
idle zero s at e = record { at_end = refl; answer = refl; spent = λ k q. refl }
idle (suc f) s at e = go (reach_of (drop at s)) refl e
  where
    go : (x : Outcome ℕ) → reach_of (drop at s) ≡ x → length (walk_by x s at (λ k. walk_up_to f s k)).messages ≡ 0 → Idle (suc f) s at
    go (refused a) q z = record { at_end = rw q; answer = rw q; spent = λ k y. absurd (omega (arith, ap tag (sym q ∙ y))) }
    go (done n) q z = absurd (omega (arith, z))

nothing : (l : List (List ℕ)) → length l ≡ 0 → l ≡ []
nothing [] e = refl
nothing (m ∷ ms) e = absurd (omega (arith, e))

module _ {b₀ : Book} {stream : List ℕ} {from place second : ℕ} {before : List ℕ} {b : Book} {here p n : ℕ} {out : List ℕ} (l : Rest b₀ stream from place second before b here p n out) (whole : length out ≡ length before)
    {market : Market} {names : Symbols} (named : market ≡ (view b).market) (tells : Tells names (view b)) {notes₀ notes : List ℕ} {r : Noted} (w : Notes b stream here notes₀ r notes)
    {t : Texts} {after : List ℕ} (x : LaysNoted market names stream here notes p second out n t after) (long : length notes ≡ length notes₀) where
  abbrev passed : List (List ℕ)
  passed = x.so_far.passed

  abbrev more : ℕ
  more = length notes₀ - length passed

  abbrev later : List (List ℕ)
  later = (walk_up_to more stream t.at).messages

  far : here + length passed ≤ t.at
  far = passes_far x.so_far.passes

  split : walk_up_to (length notes₀) stream here ≡ record { messages = passed ++ later; at = (walk_up_to more stream t.at).at; answer = (walk_up_to more stream t.at).answer }
  split = ap (λ (k : ℕ). walk_up_to k stream here) (omega (arith, x.so_far.laid, x.so_far.most, long)) ∙ passes_on walk_up_to counts_up stream here x.so_far.passes more

  count_is : r.count ≡ length passed + length later
  count_is = w.count ∙ ap (λ (y : Walk). length y.messages) split ∙ length-append passed later

  answered : Wf b → Answered (view b) passed notes
  answered f =
      let all = answers_of (view b) (walk_up_to (length notes₀) stream here).messages in
      let fits : length all ≤ length notes₀ = omega (arith, length_answers (view b) (walk_up_to (length notes₀) stream here).messages, walk_most (length notes₀) stream here) in
      record {
        rest = answers_of (steps_of (view b) passed) later ++ drop (0 + length all) notes₀;
        are =
            (w.obeys f).noted
            ∙ sets-eq all notes₀ 0 (omega (arith, fits))
            ∙ ap (λ (y : List ℕ). y ++ drop (0 + length all) notes₀) (ap (λ (y : Walk). answers_of (view b) y.messages) split ∙ answers_join (view b) passed later)
            ∙ append_assoc (answers_of (view b) passed) (answers_of (steps_of (view b) passed) later) (drop (0 + length all) notes₀);
      }

  enough_left : length passed < l.fuel
  enough_left = go (length passed) refl
    where
      go : (k : ℕ) → length passed ≡ k → length passed < l.fuel
      go zero e = omega (arith, e, l.some)
      go (suc k) e = omega (arith, far, passes_within x.so_far.passes (omega (arith, e)), l.enough)

  -- a state behind the messages that have their text
  rest_to : (c : Book) → (view c).market ≡ (view b).market → (t.at ≡ here → c ≡ b) → (Wf b → Wf c) → (Wf b → view c ≡ steps_of (view b) passed) → Rest b₀ stream from place second before c t.at t.place t.count after
  rest_to c market-is kept sound view-is = record {
    fuel = l.fuel - length passed;
    enough = omega (arith, l.enough, far, enough_left);
    some = omega (arith, enough_left);
    passed = omega (arith, l.passed, far);
    still = λ e. kept (omega (arith, e, l.passed, far)) ∙ l.still (omega (arith, e, l.passed, far));
    same_market = market-is ∙ l.same_market;
    text = l.text ++ x.so_far.text;
    front = front_on before l.text n out x.so_far.text t.count after l.front x.so_far.front;
    sound = λ f. sound (l.sound f);
    same = λ f.
        let g = l.fuel - length passed in
        let stop = (walk_for g stream t.at).answer in
        let rest = (walk_for g stream t.at).messages in
        let all : walk_for l.fuel stream here ≡ record { messages = passed ++ rest; at = (walk_for g stream t.at).at; answer = stop } = ap (λ (k : ℕ). walk_for k stream here) (omega (arith, enough_left)) ∙ passes_on walk_for counts_for stream here x.so_far.passes g in
        ap (λ (v : View). lay_from second (length before) stop (sheet_of v t.at t.place (l.text ++ x.so_far.text)) rest) (view-is (l.sound f))
        ∙ sym (rw whole at (x.so_far.same (view b) named tells (answered (l.sound f)) l.text l.front.long stop rest))
        ∙ ap (λ (y : Walk). lay_from second (length before) y.answer (sheet_of (view b) here p l.text) y.messages) (sym all)
        ∙ l.same f;
  }

  -- ---- some have none yet: there is no room for the next one, and the state is run again over those that have
  pub full : second ≤ last_second → t.laid < r.count → (q : Noted) → RunsSome b stream here t.laid q → Lays b₀ stream from place second before (record { book = q.book; at = q.at; place = t.place; count = t.count; answer = 15 }) after
  unfolding walk_up_to
  full day few q runs = go (reach_of (drop t.at stream)) refl (ltb (length before - t.count) room) refl
    where
      to : walk_up_to t.laid stream here ≡ record { messages = passed ++ []; at = t.at; answer = stop_or (reach_of (drop t.at stream)) }
      to = ap (λ (k : ℕ). walk_up_to k stream here) (sym x.so_far.laid ∙ sym (add-zero (length passed))) ∙ passes_on walk_up_to counts_up stream here x.so_far.passes 0

      there : q.at ≡ t.at
      there = runs.at ∙ ap (λ (y : Walk). y.at) to

      some : Rest b₀ stream from place second before q.book t.at t.place t.count after
      some = rest_to q.book runs.market (λ e. runs.kept (there ∙ e)) runs.wf (λ f. runs.next_view f ∙ ap (λ (y : Walk). steps_of (view b) y.messages) to ∙ ap (steps_of (view b)) (append-nil passed))

      go : (y : Outcome ℕ) → reach_of (drop t.at stream) ≡ y → (z : Bool) → ltb (length before - t.count) room ≡ z → Lays b₀ stream from place second before (record { book = q.book; at = q.at; place = t.place; count = t.count; answer = 15 }) after
      go (refused a) e z g = absurd (omega (arith, few, count_is, x.so_far.laid, walk_refused more stream t.at a e))
      go (done k) e false g = absurd (x.ends (omega (arith, few, count_is, x.so_far.laid, x.so_far.most, walk_most more stream t.at, long)) (omega (arith, ltb-false (length before - t.count) room g, whole)) k e)
      go (done k) e true g = rw there (rest_full some day k e (ltb-true (length before - t.count) room g))

  -- ---- all have theirs
  module _ (all : r.count ≤ t.laid) where
    idles : Idle more stream t.at
    idles = idle more stream t.at (omega (arith, all, count_is, x.so_far.laid))

    there : r.at ≡ t.at
    there = w.at ∙ ap (λ (y : Walk). y.at) split ∙ idles.at_end

    answer_is : r.answer ≡ stop_or (reach_of (drop t.at stream))
    answer_is = w.answer ∙ ap (λ (y : Walk). y.answer) split ∙ idles.answer

    pub next : Rest b₀ stream from place second before r.book r.at t.place t.count after
    next = rw there (rest_to r.book w.market (λ e. w.kept (there ∙ e)) (λ f. (w.obeys f).wf)
        (λ f. (w.obeys f).next_view ∙ ap (λ (y : Walk). steps_of (view b) y.messages) split ∙ ap (λ (y : List (List ℕ)). steps_of (view b) (passed ++ y)) (nothing later (omega (arith, all, count_is, x.so_far.laid))) ∙ ap (steps_of (view b)) (append-nil passed)))

    -- the walk stopped
    pub stopped : second ≤ last_second → (r.answer ≡ 15 → ⊥) → Lays b₀ stream from place second before (record { book = r.book; at = r.at; place = t.place; count = t.count; answer = r.answer }) after
    stopped day ne = go (reach_of (drop t.at stream)) refl
      where
        go : (y : Outcome ℕ) → reach_of (drop t.at stream) ≡ y → Lays b₀ stream from place second before (record { book = r.book; at = r.at; place = t.place; count = t.count; answer = r.answer }) after
        go (done k) e = absurd (ne (answer_is ∙ ap stop_or e))
        go (refused a) e = rw (answer_is ∙ ap stop_or e) (rest_stops next day a (ap (λ (k : ℕ). reach_of (drop k stream)) there ∙ e))

    -- it had as many messages as there are notes
    pub onward : 0 < length notes₀ → r.answer ≡ 15 → (here < r.at) × (r.at ≤ length stream)
    onward some is = go (reach_of (drop t.at stream)) refl
      where
        go : (y : Outcome ℕ) → reach_of (drop t.at stream) ≡ y → (here < r.at) × (r.at ≤ length stream)
        go (refused a) e = absurd (omega (arith, (reach_refuses (drop t.at stream) a e).1, sym is ∙ answer_is ∙ ap stop_or e))
        go (done k) e =
            let many : 0 < length passed = omega (arith, idles.spent k e, some) in
            (omega (arith, far, many, there), omega (arith, passes_within x.so_far.passes many, there))

-- Each turn passes messages that stand behind those passed before, so in the end all of the file was passed once, and the texts laid are the printout.
use mathlib.Core.List.{List, [], ◌++◌, append_assoc, append-nil, flatten}
use mathlib.Core.Logic.{◌⊎◌, inl, ⊎_elim, ◌≢◌}
use mathlib.Core.Path.{◌≡◌, refl, sym, ap, ◌∙◌, subst}
use Prim.Native.Nat.{ℕ}
use native.Mathlib.Omega.{arith}
use lib.ListN.{length, take, take-append-drop}
use Rattle.wire.specs.Outcome.{refused}
use Rattle.wire.specs.Reading.{reach_of}
use Rattle.wire.proofs.Cases.{reach_short}
use Rattle.book.specs.State.{View, view, Wf}
use Rattle.book.specs.declared.Book.{Book}
use Rattle.book.specs.Walk.{Walk, AllComplete, walk_of, steps_of}
use Rattle.book.proofs.Walking.{steps_join}
use Rattle.page.specs.Printout.{texts_of, closing, printed_of}
use Rattle.page.proofs.Passing.{place_after, places_join, texts_join, flatten_join, complete_join, lays_passes}
use Rattle.parts.specs.Parts.{walk_parts}
use Rattle.parts.proofs.Walks.{walk_stops, walk_behind}
use Rattle.parts.proofs.Cuts.{small_ends_the_file, cuts_do_not_matter}
use Rattle.painterend.specs.Program.{index, second, start_view, printout, Starts}
use Rattle.painterend.specs.Turn as turn
use Rattle.painterend.specs.Turn.{left, awaiting, read_behind, Failed, Ready, Interrupted, LaysPart, Ends, Turns, Turn}
use Rattle.painterend.specs.Course.{laid_by, Course, begins, interrupted, lays_part, ends, fails, Ran}
use Rattle.painterend.specs.declared.turns.Progress.{Progress}
use Rattle.painterend.specs.declared.turns.State.{State}
use Rattle.painterend.proofs.Apart.{reading_done, reading_failed, done_failed}

-- ---- so far: the messages passed, then the bytes that are left, are what was read; the view, the place and the texts are those of the messages passed
pub record SoFar (file text : List ℕ) (s : State) (buffer : List ℕ) : Type 0 where
  pub sound : Wf s.laid.book
  pub passed : List (List ℕ)
  pub complete : AllComplete passed
  pub bytes : file ≡ flatten passed ++ left s buffer
  pub views : view s.laid.book ≡ steps_of start_view passed
  pub places : s.laid.place ≡ place_after 0 passed
  pub texts : text ≡ texts_of second start_view 0 passed
  pub why : (reach_of (left s buffer) ≡ refused s.laid.answer) ⊎ (s.laid.answer ≡ 15)

at_the_start : {b : _} (buffer : List ℕ) → Starts b → SoFar [] [] (awaiting b 0 0) buffer
unfolding flatten texts_of steps_of place_after
at_the_start buffer s = record { sound = s.wf; passed = []; complete = tt; bytes = refl; views = s.view_at_start; places = refl; texts = refl; why = inl (reach_short [] (omega arith)) }

after_an_interrupt : {file text before after : List ℕ} {s r : State} → SoFar file text s before → Interrupted s.laid (left s before) r after → SoFar file text r after
after_an_interrupt {file} {text} {before} {after} {s} {r} f x = subst (λ (z : State). SoFar file text z after) (sym x.same) (record {
  sound = f.sound;
  passed = f.passed;
  complete = f.complete;
  bytes = f.bytes ∙ ap (λ (l : List ℕ). flatten f.passed ++ l) (sym x.stays);
  views = f.views;
  places = f.places;
  texts = f.texts;
  why = ⊎_elim (λ e. inl (ap reach_of x.stays ∙ e ∙ ap refused x.wanted)) (λ e. absurd (omega (arith, x.wanted, e))) f.why;
})

after_a_laying : {file text before after out : List ℕ} {s r : State} → SoFar file text s before → LaysPart s.laid (left s before) r after out → SoFar (file ++ read_behind (left s before) r after) (text ++ laid_by r out) r after
after_a_laying {file} {text} {before} {after} {out} {s} {r} f x =
    let part = take r.full after in
    let p = lays_passes s.laid.book part s.laid.place second x.sheet r.laid out x.lays (omega arith) f.sound in
    let whole : left s before ++ read_behind (left s before) r after ≡ part = ap (λ (l : List ℕ). l ++ read_behind (left s before) r after) (sym x.begins) ∙ take-append-drop (length (left s before)) part in
    record {
      sound = (x.lays.obeys (omega arith) f.sound).wf;
      passed = f.passed ++ p.laid;
      complete = complete_join f.passed p.laid f.complete p.complete;
      bytes = ap (λ (l : List ℕ). l ++ read_behind (left s before) r after) f.bytes
          ∙ append_assoc (flatten f.passed) (left s before) (read_behind (left s before) r after)
          ∙ ap (λ (l : List ℕ). flatten f.passed ++ l) (whole ∙ p.stream)
          ∙ sym (append_assoc (flatten f.passed) (flatten p.laid) (left r after))
          ∙ ap (λ (l : List ℕ). l ++ left r after) (sym (flatten_join f.passed p.laid));
      views = p.next_view ∙ ap (λ (v : View). steps_of v p.laid) f.views ∙ sym (steps_join start_view f.passed p.laid);
      places = p.places ∙ ap (λ (n : ℕ). place_after n p.laid) f.places ∙ sym (places_join 0 f.passed p.laid);
      texts = (λ i. f.texts i ++ p.text i) ∙ (λ i. texts_of second start_view 0 f.passed ++ texts_of second (f.views i) (f.places i) p.laid) ∙ sym (texts_join second start_view 0 f.passed p.laid);
      why = p.why;
    }

pub so_far : {file text : List ℕ} {s : State} {buffer : List ℕ} → Course file text s buffer → s.progress ≡ Progress.Reading → SoFar file text s buffer
so_far (begins {buffer = buffer} s) g = at_the_start buffer s
so_far (interrupted p h x) g = after_an_interrupt (so_far p h) x
so_far (lays_part p h x) g = after_a_laying (so_far p h) x
so_far (ends p h n e) g = absurd (reading_done g e.over)
so_far (fails p f) g = absurd (reading_failed g f.over)

-- ---- the loop: up to a state there was a course
pub record Reached (s : State) (buffer : List ℕ) : Type 0 where
  pub file : List ℕ
  pub text : List ℕ
  pub course : Course file text s buffer

pub reached_start : (b : Book) (s : State) (buffer : List ℕ) → Starts b → s ≡ awaiting b 0 0 → (s.progress ≡ Progress.Reading → Ready s) × Reached s buffer
reached_start b s buffer x e = (
  λ g. subst Ready (sym e) (record { sound = x.wf; range = omega arith; within = omega arith; room_left = λ o. omega arith; why = inl refl }),
  subst (λ (z : State). Reached z buffer) (sym e) (record { file = []; text = []; course = begins x }),
)

module _ (s : State) (before : List ℕ) (t : State) (after out : List ℕ) (r : State) where
  turned : Reached s before → s.progress ≡ Progress.Reading → Turns s.laid (left s before) t after out → Reached t after
  turned x g (turn.interrupted y) = record { file = x.file; text = x.text; course = interrupted x.course g y }
  turned x g (turn.lays_part y) = record { file = x.file ++ read_behind (left s before) t after; text = x.text ++ laid_by t out; course = lays_part x.course g y }
  turned x g (turn.ends n y) = record { file = x.file; text = x.text ++ laid_by t out; course = ends x.course g n y }

  pub ready_again : Turn s.laid (left s before) t after out → (r ≡ t) ⊎ Failed r → r.progress ≡ Progress.Reading → Ready r
  ready_again y w h = ⊎_elim (λ e. subst Ready (sym e) (y.ready (sym (ap (λ (q : State). q.progress) e) ∙ h))) (λ f. absurd (reading_failed h f.over)) w

-- ---- the whole page: where a run came to its end and reported no error, what it laid is the printout of what it read
-- at the end all of the file's messages are passed
pub all_passed : {file text before : List ℕ} {s : State} (f : SoFar file text s before) → s.laid.answer ≢ 15 → ((walk_of file 0).messages ≡ f.passed) × ((walk_of file 0).answer ≡ s.laid.answer)
all_passed {file} {text} {before} {s} f n =
    let reach : reach_of (left s before) ≡ refused s.laid.answer = ⊎_elim (λ z. z) (λ z. absurd (n z)) f.why in
    let walk : walk_of file 0 ≡ _ = ap (λ (l : List ℕ). walk_of l 0) f.bytes ∙ walk_behind f.passed f.complete (left s before) in
    let stops = walk_stops (left s before) s.laid.answer reach in (
      ap (λ (w : Walk). w.messages) walk ∙ ap (λ (w : Walk). f.passed ++ w.messages) stops ∙ append-nil f.passed,
      ap (λ (w : Walk). w.answer) walk ∙ ap (λ (w : Walk). w.answer) stops,
    )

at_the_end : {file text before out : List ℕ} {s r : State} → SoFar file text s before → s.laid.answer ≢ 15 → Ends s.laid r out → text ++ laid_by r out ≡ printout file
unfolding printout printed_of
at_the_end {file} {text} {before} {out} {s} {r} f n e =
    let all = all_passed f n in
    (λ i. f.texts i ++ e.text i)
    ∙ ap (λ (v : View). texts_of second start_view 0 f.passed ++ closing v index s.laid.answer) f.views
    ∙ sym (λ i. texts_of second start_view 0 (all.0 i) ++ closing (steps_of start_view (all.0 i)) index (all.1 i))

pub whole_page : {file text : List ℕ} {r : State} {buffer : List ℕ} → Course file text r buffer → r.progress ≡ Progress.Done → text ≡ printout file
whole_page (begins s) g = absurd (reading_done refl g)
whole_page (interrupted p t x) g = absurd (reading_done (ap (λ (s : State). s.progress) x.same) g)
whole_page (lays_part p t x) g = absurd (reading_done x.goes_on g)
whole_page (ends p t n e) g = at_the_end (so_far p t) n e
whole_page (fails p f) g = absurd (done_failed g f.over)

pub reached_ran : (s : State) (buffer : List ℕ) → Reached s buffer → Ran s
reached_ran s buffer x = record { file = x.file; text = x.text; buffer = buffer; course = x.course; page = whole_page x.course }

-- so it does not hang on the cuts: in whatever parts a file is read, the printout is that of the file as one slice
pub printout_in_parts : (ps : List (List ℕ)) → printout (flatten ps) ≡ printed_of index second start_view (walk_parts ps)
unfolding printout
printout_in_parts ps = ap (printed_of index second start_view) (sym (cuts_do_not_matter ps))

-- and what stands behind a Msg Size below 4 is not looked at
pub behind_a_small_size : (file rest : List ℕ) → (walk_of file 0).answer ≡ 2 → printout (file ++ rest) ≡ printout file
unfolding printout
behind_a_small_size file rest two = ap (printed_of index second start_view) (small_ends_the_file file rest two)

-- A laying lays the first messages of the walk: so many as have room, each after the one before.
use Rattle.std.proofs.Common.{◌≡◌, ℕ, ◌+◌, ◌-◌, ◌<◌, ◌≤◌, Bool, true, false, ltb, ◌⊎◌, List, [], ◌∷◌, ◌++◌, length, take, drop, sym, refl, ap, ◌∙◌, subst, inl, inr, ⊎_elim, append_assoc, append-nil, add-zero, add_assoc, zero-add, arith, length-append, take_at, drop_at, ltb-true}
use mathlib.Core.List.{flatten}
use Rattle.wire.specs.Outcome.{refused}
use Rattle.wire.specs.Reading.{reach_of}
use Rattle.wire.proofs.Answers.{reach_refuses}
use Rattle.wire.proofs.Cases.{reached}
use Rattle.book.specs.State.{View, view, Wf}
use Rattle.book.specs.Step.{step_in}
use Rattle.book.specs.Walk.{AllComplete, walk_of, steps_of}
use Rattle.book.specs.declared.Book.{Book}
use Rattle.book.proofs.Positions.{stops_there}
use Rattle.book.proofs.Streams.{every_stream}
use Rattle.columns.specs.Held.{room}
use Rattle.page.specs.Printing.{last_second}
use Rattle.page.specs.Printout.{passed_text, next_place, texts_of}
use Rattle.page.specs.Laying.{Sheet, more, Laying, lay_from, lay_of, Lays}
use Rattle.page.specs.declared.laying.Laid.{Laid}

-- ---- texts one behind the other
unfoldable pub place_after : ℕ → List (List ℕ) → ℕ
place_after place [] = place
place_after place (m ∷ ms) = place_after (next_place place) ms

pub places_join : (place : ℕ) (ms ns : List (List ℕ)) → place_after place (ms ++ ns) ≡ place_after (place_after place ms) ns
unfolding place_after
places_join place [] ns = refl
places_join place (m ∷ ms) ns = places_join (next_place place) ms ns

pub texts_join : (second : ℕ) (v : View) (place : ℕ) (ms ns : List (List ℕ)) → texts_of second v place (ms ++ ns) ≡ texts_of second v place ms ++ texts_of second (steps_of v ms) (place_after place ms) ns
unfolding texts_of steps_of place_after
texts_join second v place [] ns = refl
texts_join second v place (m ∷ ms) ns =
    ap (λ (l : List ℕ). passed_text v.market (step_in v m) m (next_place place) second ++ l) (texts_join second (step_in v m).view (next_place place) ms ns)
    ∙ sym (append_assoc (passed_text v.market (step_in v m) m (next_place place) second) (texts_of second (step_in v m).view (next_place place) ms) _)

-- ---- a laying lays some of the messages, and all unless it ends with 15
abbrev after : ℕ → Sheet → List (List ℕ) → Sheet
after second s ms = record { view = steps_of s.view ms; at = s.at + length (flatten ms); place = place_after s.place ms; text = s.text ++ texts_of second s.view s.place ms }

record Some (second stop : ℕ) (s : Sheet) (ms : List (List ℕ)) (x : Laying) : Type 0 where
  laid : List (List ℕ)
  rest : List (List ℕ)
  all : ms ≡ laid ++ rest
  sheet : x.sheet ≡ after second s laid
  why : ((rest ≡ []) × (x.answer ≡ stop)) ⊎ (x.answer ≡ 15)

after_none : (second : ℕ) (s : Sheet) → s ≡ after second s []
unfolding texts_of steps_of place_after flatten
after_none second s = λ i. record { view = s.view; at = sym (add-zero s.at) i; place = s.place; text = sym (append-nil s.text) i }

after_more : (second : ℕ) (s : Sheet) (m : List ℕ) (ms : List (List ℕ)) → after second (more second s m) ms ≡ after second s (m ∷ ms)
unfolding texts_of steps_of place_after flatten
after_more second s m ms = λ i. record {
  view = steps_of (step_in s.view m).view ms;
  at = (add_assoc s.at (length m) (length (flatten ms)) ∙ ap (λ (n : ℕ). s.at + n) (sym (length-append m (flatten ms)))) i;
  place = place_after (next_place s.place) ms;
  text = append_assoc s.text (passed_text s.view.market (step_in s.view m) m (next_place s.place) second) (texts_of second (step_in s.view m).view (next_place s.place) ms) i;
}

lays_some : (second size stop : ℕ) (ms : List (List ℕ)) (s : Sheet) → Some second stop s ms (lay_from second size stop s ms)
unfolding lay_from
lays_some second size stop [] s = record { laid = []; rest = []; all = refl; sheet = after_none second s; why = inl (refl, refl) }
lays_some second size stop (m ∷ ms) s = go (ltb (size - length s.text) room) refl (lays_some second size stop ms (more second s m))
  where
    go : (full : Bool) → ltb (size - length s.text) room ≡ full → Some second stop (more second s m) ms (lay_from second size stop (more second s m) ms) → Some second stop s (m ∷ ms) (lay_from second size stop s (m ∷ ms))
    go true e ih = rw e (record { laid = []; rest = m ∷ ms; all = refl; sheet = after_none second s; why = inr refl })
    go false e ih = rw e (record { laid = m ∷ ih.laid; rest = ih.rest; all = ap (λ (l : List (List ℕ)). m ∷ l) ih.all; sheet = ih.sheet ∙ after_more second s m ih.laid; why = ih.why })

pub flatten_join : (ms ns : List (List ℕ)) → flatten (ms ++ ns) ≡ flatten ms ++ flatten ns
unfolding flatten
flatten_join [] ns = refl
flatten_join (m ∷ ms) ns = ap (λ (l : List ℕ). m ++ l) (flatten_join ms ns) ∙ sym (append_assoc m (flatten ms) (flatten ns))

pub complete_join : (ms ns : List (List ℕ)) → AllComplete ms → AllComplete ns → AllComplete (ms ++ ns)
complete_join [] ns c d = d
complete_join (m ∷ ms) ns c d = (c.0, complete_join ms ns c.1 d)

first_complete : (ms ns : List (List ℕ)) → AllComplete (ms ++ ns) → AllComplete ms
first_complete [] ns c = tt
first_complete (m ∷ ms) ns c = (c.0, first_complete ms ns c.1)

-- ---- so the messages laid stand at the front of the stream, and it ended for want of room, or as the walk did
pub record LaysMessages (b : Book) (part : List ℕ) (place second : ℕ) (r : Laid) (out : List ℕ) : Type 0 where
  pub laid : List (List ℕ)
  pub complete : AllComplete laid
  pub at : r.at ≡ length (flatten laid)
  pub stream : part ≡ flatten laid ++ drop r.at part
  pub next_view : view r.book ≡ steps_of (view b) laid
  pub places : r.place ≡ place_after place laid
  pub text : take r.count out ≡ texts_of second (view b) place laid
  pub why : (reach_of (drop r.at part) ≡ refused r.answer) ⊎ (r.answer ≡ 15)

module _ (b : Book) (part : List ℕ) (place second : ℕ) (before : List ℕ) (r : Laid) (out : List ℕ) (lays : Lays b part 0 place second before r out) (day : second ≤ last_second) (w : Wf b) where
  -- a buffer that begins with a text shows it
  shows : (text : List ℕ) (n : ℕ) → n ≡ length text → out ≡ text ++ drop (length text) before → take n out ≡ text
  shows text n e o = ap (take n) o ∙ take_at text (drop (length text) before) n (sym e)

  pub lays_passes : LaysMessages b part place second r out
  unfolding lay_of flatten
  lays_passes =
      let o = lays.obeys day w in
      let some = lays_some second (length before) (walk_of part 0).answer (walk_of part 0).messages (record { view = view b; at = 0; place = place; text = [] }) in
      let d = some.laid in
      let every = every_stream part 0 in
      let parted : part ≡ flatten d ++ (flatten some.rest ++ drop (walk_of part 0).at part) =
      sym every.stream ∙ ap (λ (l : List ℕ). l ++ drop (walk_of part 0).at part) (ap flatten some.all ∙ flatten_join d some.rest) ∙ append_assoc (flatten d) (flatten some.rest) (drop (walk_of part 0).at part) in
      let at : r.at ≡ length (flatten d) = o.at ∙ ap (λ (x : Sheet). x.at) some.sheet ∙ zero-add (length (flatten d)) in
      let left : drop r.at part ≡ flatten some.rest ++ drop (walk_of part 0).at part = ap (drop r.at) parted ∙ drop_at (flatten d) _ r.at (sym at) in
      record {
        laid = d;
        complete = first_complete d some.rest (subst AllComplete some.all every.complete);
        at = at;
        stream = parted ∙ ap (λ (l : List ℕ). flatten d ++ l) (sym left);
        next_view = o.next_view ∙ ap (λ (x : Sheet). x.view) some.sheet;
        places = o.place ∙ ap (λ (x : Sheet). x.place) some.sheet;
        text = shows (lay_of second (length before) (view b) part 0 place).sheet.text r.count o.count o.out ∙ ap (λ (x : Sheet). x.text) some.sheet;
        why = ⊎_elim
            (λ y. inl (ap reach_of (left ∙ ap (λ (ms : List (List ℕ)). flatten ms ++ drop (walk_of part 0).at part) y.0) ∙ stops_there part 0 ∙ ap refused (sym (o.answer ∙ y.1))))
            (λ y. inr (o.answer ∙ y))
            some.why;
      }

-- ---- with room for one text a laying that ends for want of room has moved on
abbrev opening : View → ℕ → ℕ → Sheet
opening v at place = record { view = v; at = at; place = place; text = [] }

moves_from : (second size stop : ℕ) (v : View) (at place : ℕ) → room ≤ size → stop ≤ 2 → (ms : List (List ℕ)) → AllComplete ms → (lay_from second size stop (opening v at place) ms).answer ≡ 15 → at < (lay_from second size stop (opening v at place) ms).sheet.at
unfolding lay_from
moves_from second size stop v at place fits small [] c e = absurd (omega (arith, e, small))
moves_from second size stop v at place fits small (m ∷ ms) c e = go (ltb (size - 0) room) refl e
  where
    go : (full : Bool) → ltb (size - 0) room ≡ full → (lay_from second size stop (opening v at place) (m ∷ ms)).answer ≡ 15 → at < (lay_from second size stop (opening v at place) (m ∷ ms)).sheet.at
    go true q e = absurd (omega (arith, ltb-true (size - 0) room q, fits))
    go false q e =
        let some = lays_some second size stop ms (more second (opening v at place) m) in
        rw q (omega (arith, ap (λ (x : Sheet). x.at) some.sheet, (reached m (length m) c.0).least))

pub lay_moves : (second size : ℕ) (v : View) (part : List ℕ) (at place : ℕ) → room ≤ size → (lay_of second size v part at place).answer ≡ 15 → at < (lay_of second size v part at place).sheet.at
unfolding lay_of
lay_moves second size v part at place fits =
    moves_from second size (walk_of part at).answer v at place fits (reach_refuses (drop (walk_of part at).at part) (walk_of part at).answer (stops_there part at)).1 (walk_of part at).messages (every_stream part at).complete

-- ---- it ends as the walk does, with 1 or 2, or with 15
pub laying_ends : (second size : ℕ) (v : View) (part : List ℕ) (at place : ℕ) → ((1 ≤ (lay_of second size v part at place).answer) × ((lay_of second size v part at place).answer ≤ 2)) ⊎ ((lay_of second size v part at place).answer ≡ 15)
unfolding lay_of
laying_ends second size v part at place =
    ⊎_elim (λ y. inl (rw y.1 (reach_refuses (drop (walk_of part at).at part) (walk_of part at).answer (stops_there part at)))) inr
    (lays_some second size (walk_of part at).answer (walk_of part at).messages (opening v at place)).why

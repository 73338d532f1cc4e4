-- A part that is full moves on, so that there is always room to read more; what was left stands at the front of the next part.
use mathlib.Core.Bool.{Bool, true, false}
use mathlib.Core.List.{List, ◌++◌, flatten}
use mathlib.Core.Logic.{◌⊎◌, inl, inr, ⊎_elim, ◌≢◌}
use mathlib.Core.Path.{◌≡◌, refl, sym, ap, ◌∙◌, subst}
use Prim.Native.Nat.{ℕ, ◌-◌, ◌≤◌, ◌<◌}
use native.Mathlib.Omega.{arith}
use borrow.Author.Tests.{ltb-true, ltb-false, eqb-true, eqb-false}
use lib.Dec.{ltb, eqb}
use lib.ListN.{length, take, drop, length-append}
use lib.Seq.{take-take, length-take-le, length-slice, take_at}
use Rattle.std.specs.Prelude.{Result, Ok, Err, IfOk}
use Rattle.std.specs.Result.{result_unwrap_or}
use Rattle.std.specs.declared.io.Error.{Error}
use Rattle.wire.specs.Outcome.{refused}
use Rattle.wire.specs.Reading.{reach_of}
use Rattle.wire.specs.Writing.{Write, count_of}
use Rattle.wire.specs.RoundTrip.{Bytes}
use Rattle.wire.proofs.Answers.{reach_refuses}
use Rattle.book.specs.State.{view, Wf}
use Rattle.columns.specs.Held.{room}
use Rattle.book.specs.Walk.{Walk}
use Rattle.page.specs.Printing.{printed, laid}
use Rattle.page.specs.Laying.{lay_of, Lays}
use Rattle.page.specs.declared.LineError.{LineError}
use Rattle.page.proofs.Cases.{laid_fits}
use Rattle.page.proofs.Told.{count_printed}
use Rattle.page.specs.declared.laying.Laid.{Laid}
use Rattle.page.proofs.Passing.{LaysMessages, lays_passes}
use Rattle.parts.specs.Parts.{part_room}
use Rattle.parts.specs.Carry.{carried, carry_of}
use Rattle.parts.proofs.Opening.{Front, carried_front}
use Rattle.parts.proofs.FullParts.{full_part_moves}
use Rattle.parts.proofs.Walks.{walk_stops}
use Rattle.painterend.specs.Program.{second}
use Rattle.painterend.specs.Turn.{left, awaiting, Counted, Brings, Ready, Ends, interrupted, lays_part, ends, Turn, LaysFilled, Heeds}
use Rattle.painterend.specs.declared.turns.Progress.{Progress}
use Rattle.painterend.specs.declared.turns.State.{State}
use Rattle.painterend.proofs.Apart.{reading_done}

-- ---- what is filled is laid
module _ (l : Laid) (part sheet : List ℕ) (x : Laid) (out : List ℕ) (h : length part ≤ part_room) (sound : Wf l.book) (b : Bytes part) (same : length out ≡ length sheet)
    (lays : Lays l.book part 0 l.place second sheet x out) where
  passes : LaysMessages l.book part l.place second x out
  passes = lays_passes l.book part l.place second sheet x out lays (omega arith) sound

  moved : x.at ≤ length part
  moved = omega (arith, passes.at, ap length passes.stream, length-append (flatten passes.laid) (drop x.at part))

  -- a full part that wants more has moved
  moves : x.answer ≡ 1 → part_room ≤ length part → x.at ≢ 0
  moves one full zero = ⊎_elim
      (λ e.
      let stops = walk_stops part 1 (sym (ap (λ (n : ℕ). reach_of (drop n part)) zero) ∙ e ∙ ap refused one) in
      omega (arith, full_part_moves part b (omega (arith, full)) (ap (λ (w : Walk). w.answer) stops), ap (λ (w : Walk). w.at) stops))
      (λ e. omega (arith, one, e))
      passes.why

  room_for_more : x.answer ≡ 1 → length part - x.at < part_room
  room_for_more one = go (ltb (length part) part_room) refl (eqb x.at 0) refl
    where
      go : (below : Bool) → ltb (length part) part_room ≡ below → (still : Bool) → eqb x.at 0 ≡ still → length part - x.at < part_room
      go true e still f = omega (arith, ltb-true (length part) part_room e)
      go false e true f = absurd (moves one (ltb-false (length part) part_room e) (eqb-true x.at 0 f))
      go false e false f = let ne = eqb-false x.at 0 f in omega (arith, h, moved, ne)

  one_or_two : (a : ℕ) → 1 ≤ a → a ≤ 2 → (a ≡ 1) ⊎ ((a ≡ 2) ⊎ (a ≡ 15))
  one_or_two a least most = go (eqb a 1) refl
    where
      go : (t : Bool) → eqb a 1 ≡ t → (a ≡ 1) ⊎ ((a ≡ 2) ⊎ (a ≡ 15))
      go true e = inl (eqb-true a 1 e)
      go false e = let ne = eqb-false a 1 e in inr (inl (omega (arith, ne, least, most)))

  pub filled_laid : LaysFilled l part sheet (record { laid = x; full = length part; progress = Progress.Reading }) out
  filled_laid =
      let o = lays.obeys (omega arith) sound in
      let text = (lay_of second (length sheet) (view l.book) part 0 l.place).sheet.text in
      record {
        full = refl;
        lays = lays;
        goes_on = refl;
        ready = record {
          sound = o.wf;
          range = moved;
          within = h;
          room_left = room_for_more;
          why = ⊎_elim (λ e. let a = reach_refuses _ x.answer e in one_or_two x.answer a.0 a.1) (λ e. inr (inr e)) passes.why;
        };
        count = omega (arith, o.count, ap length o.out, length-append text (drop (length text) sheet));
      }

-- ---- the end is laid
pub end_laid : (text before out : List ℕ) (p : Result ℕ LineError) (n : ℕ) → length text ≤ room → room ≤ length before → printed p out ≡ laid text before → n ≡ result_unwrap_or p 0 → (take n out ≡ text) × (n ≤ length out)
end_laid text before out p n short long e count =
    let whole = e ∙ laid_fits text before (omega (arith, short, long)) in
    let bytes : out ≡ text ++ drop (length text) before = ap (λ (w : Write). w.out) whole in
    let size : n ≡ length text = count ∙ count_printed p ∙ ap (λ (w : Write). count_of w.outcome) whole in
    (ap (take n) bytes ∙ take_at text (drop (length text) before) n (sym size), omega (arith, size, ap length bytes, length-append text (drop (length text) before)))

-- what was left stands at the front
pub carried_left : (s : State) (before after : List ℕ) (n : ℕ) → Ready s → length before ≡ part_room → length after ≡ length before → carried n after ≡ carry_of before s.laid.at s.full → Front (left s before) n after
carried_left s before after n r size same e = carried_front before s.laid.at s.full n after r.range (omega (arith, size, r.within)) same e

-- where more is to be read, there is room for it
pub room_to_read : (s : State) (before : List ℕ) (n : ℕ) (after : List ℕ) → Ready s → length before ≡ part_room → s.laid.answer ≡ 1 → Front (left s before) n after → n < part_room
room_to_read s before n after r size one f = omega (arith, r.room_left one, f.long, length-slice s.laid.at s.full before (omega (arith, r.within, size)))

-- ---- the turn
module _ (l : Laid) (bytes : List ℕ) (r : State) (after out : List ℕ) where
  pub turn_ends : l.answer ≢ 15 → Ends l r out → Turn l bytes r after out
  turn_ends n e = record { turns = ends n e; ready = λ g. absurd (reading_done g e.over); count = e.within }

  -- the part begins with what was left
  pub turn_lays : (n size : ℕ) (sheet : List ℕ) → Front bytes n after → n ≤ size → size ≤ length after → (l.answer ≢ 1 → size ≡ n) → LaysFilled l (take size after) sheet r out → Turn l bytes r after out
  turn_lays n size sheet f h most unread x =
      let full : r.full ≡ size = x.full ∙ length-take-le size after most in record {
        turns = lays_part (record {
          sheet = sheet;
          begins = (λ i. take (f.long i) (take (full i) after)) ∙ take-take n size after h ∙ f.shows;
          unread = λ other. full ∙ unread other ∙ sym f.long;
          lays = rw full x.lays;
          goes_on = x.goes_on;
        });
        ready = λ g. x.ready;
        count = x.count;
      }

  -- the read was interrupted
  pub turn_again : (n : ℕ) → Front bytes n after → n < part_room → l.answer ≡ 1 → Wf l.book → r ≡ awaiting l.book l.place n → Turn l bytes r after out
  turn_again n f h one sound same = record {
    turns = interrupted (record { wanted = one; same = same ∙ ap (awaiting l.book l.place) (sym f.long); stays = ap (λ (k : ℕ). take k after) f.long ∙ f.shows });
    ready = λ z. subst Ready (sym same) (record { sound = sound; range = omega arith; within = omega (arith, h); room_left = λ w. omega (arith, h); why = inl refl });
    count = omega (arith, ap (λ (s : State). s.laid.count) same);
  }

module _ (l : Laid) (kept : ℕ) (before after sheet out : List ℕ) where
  -- what a read brought
  pub turn_reads : (got : Result ℕ Error) (r : Result State Error) → kept < part_room → length before ≡ part_room → length after ≡ part_room → l.answer ≡ 1 → Wf l.book → Brings kept before got after → Heeds got l kept after sheet r out
      → IfOk r (λ s. Turn l (take kept before) s after out)
  turn_reads got r h size same one sound x y = go got r x.counted y
    where
      long : length (take kept before) ≡ kept
      long = length-take-le kept before (omega (arith, h, size))

      front : Front (take kept before) kept after
      front = record { long = long; shows = x.stays; within = omega (arith, h, same) }

      brought : (full : ℕ) (s : State) → kept ≤ full → full ≤ length after → (none : Bool) → eqb full kept ≡ none → (full ≡ kept → Ends l s out) → (full ≢ kept → LaysFilled l (take full after) sheet s out) → Turn l (take kept before) s after out
      brought full s least most true q e z = turn_ends l (take kept before) s after out (λ w. omega (arith, one, w)) (e (eqb-true full kept q))
      brought full s least most false q e z = turn_lays l (take kept before) s after out kept full sheet front least most (λ other. absurd (other one)) (z (eqb-false full kept q))

      go : (got : Result ℕ Error) (r : Result State Error) → IfOk got (Counted kept (length after)) → Heeds got l kept after sheet r out → IfOk r (λ s. Turn l (take kept before) s after out)
      go (Err e) (Ok s) n y = turn_again l (take kept before) s after out kept front h one sound y
      go (Err e) (Err d) n y = tt
      go (Ok full) (Ok s) n y = brought full s n.behind n.within (eqb full kept) refl y.0 y.1
      go (Ok full) (Err d) n y = tt

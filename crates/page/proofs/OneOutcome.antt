-- The promises leave one outcome: an answer is known from its number, value and offset, and a laying is one equation for each thing that it hands back.
use Rattle.std.specs.Prelude.{Result, Ok, Err}
use Rattle.std.proofs.Common.{◌≡◌, ℕ, Bool, true, false, cond, eqb, ltb, List, sym, refl, ap, ◌∙◌, ltb-false, ltb-true}
use Rattle.wire.specs.Outcome.{Outcome, done, refused}
use Rattle.wire.specs.Writing.{Write}
use Rattle.wire.specs.declared.Message.{Message}
use Rattle.book.specs.State.{view, Wf}
use Rattle.book.specs.declared.Book.{Book}
use Rattle.page.specs.Printing.{printed_as, printed, last_second, laid, line_of, told}
use Rattle.page.specs.Printout.{closing}
use Rattle.page.specs.Levels.{levels_text}
use Rattle.page.specs.Laying.{Lays}
use Rattle.page.specs.declared.laying.Laid.{Laid}
use Rattle.page.specs.declared.LineError.{LineError}

-- an answer again, from its number, value and offset
printed_from : Outcome ℕ → ℕ → Result ℕ LineError
printed_from (done n) offset = Ok n
printed_from (refused k) offset =
    Err (cond (eqb k 3) LineError.BadType (cond (eqb k 4) (LineError.BadField offset) (cond (eqb k 5) LineError.NoSymbol (cond (eqb k 14) LineError.BadSecond LineError.NoRoom))))

printed_again : (p : Result ℕ LineError) → printed_from (printed_as p).outcome (printed_as p).offset ≡ p
unfolding printed_from
printed_again (Ok n) = refl
printed_again (Err LineError.BadType) = refl
printed_again (Err (LineError.BadField n)) = refl
printed_again (Err LineError.NoSymbol) = refl
printed_again (Err LineError.BadSecond) = refl
printed_again (Err LineError.NoRoom) = refl

same_printed : (a b : Result ℕ LineError) (x y : List ℕ) → printed a x ≡ printed b y → (a ≡ b) × (x ≡ y)
same_printed a b x y e =
    (sym (printed_again a) ∙ ap (λ (w : Write). printed_from w.outcome w.offset) e ∙ printed_again b, ap (λ (w : Write). w.out) e)

-- two results that meet the promise of a call on the same input are equal, buffers included
module _ (b : Book) (out x y : List ℕ) where
  pub one_line : (m : Message) (plain : List ℕ) (sequence second : ℕ) (p q : Result ℕ LineError) → printed p x ≡ line_of (view b).market (told b m) m plain sequence second out → printed q y ≡ line_of (view b).market (told b m) m plain sequence second out → (p ≡ q) × (x ≡ y)
  one_line m plain sequence second p q e f = same_printed p q x y (e ∙ sym f)

  pub one_end : (index answer : ℕ) (p q : Result ℕ LineError) → printed p x ≡ laid (closing (view b) index answer) out → printed q y ≡ laid (closing (view b) index answer) out → (p ≡ q) × (x ≡ y)
  one_end index answer p q e f = same_printed p q x y (e ∙ sym f)

  pub one_levels : (index : ℕ) (p q : Result ℕ LineError) → printed p x ≡ laid (levels_text (view b) index) out → printed q y ≡ laid (levels_text (view b) index) out → (p ≡ q) × (x ≡ y)
  one_levels index p q e f = same_printed p q x y (e ∙ sym f)

  -- of a laying the states have equal views, as those of `apply` and `run`
  pub one_laying : (stream : List ℕ) (from place second : ℕ) (q r : Laid) → Wf b → Lays b stream from place second out q x → Lays b stream from place second out r y
      → (view q.book ≡ view r.book) × (q.at ≡ r.at) × (q.place ≡ r.place) × (q.count ≡ r.count) × (q.answer ≡ r.answer) × (x ≡ y)
  one_laying stream from place second q r w p s = go (ltb last_second second) refl
    where
      go : (late : Bool) → ltb last_second second ≡ late → (view q.book ≡ view r.book) × (q.at ≡ r.at) × (q.place ≡ r.place) × (q.count ≡ r.count) × (q.answer ≡ r.answer) × (x ≡ y)
      go true e =
          let l = ltb-true last_second second e in
          let same : q ≡ r = (p.late l).0 ∙ sym (s.late l).0 in
          (ap (λ (z : Laid). view z.book) same, ap (λ (z : Laid). z.at) same, ap (λ (z : Laid). z.place) same, ap (λ (z : Laid). z.count) same, ap (λ (z : Laid). z.answer) same, (p.late l).1 ∙ sym (s.late l).1)
      go false e =
          let l = ltb-false last_second second e in
          let a = p.obeys l w in
          let c = s.obeys l w in
          (a.next_view ∙ sym c.next_view, a.at ∙ sym c.at, a.place ∙ sym c.place, a.count ∙ sym c.count, a.answer ∙ sym c.answer, a.out ∙ sym c.out)

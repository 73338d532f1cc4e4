-- The numbers that a call can answer with are those of the clauses of its rule, and each clause that refuses leaves the buffer.
use Rattle.std.specs.Prelude.{Option, Some, None}
use Rattle.std.proofs.Common.{◌≡◌, ℕ, zero, suc, ◌<◌, ◌≤◌, Bool, true, false, ltb, ◌⊎◌, List, [], ◌∷◌, length, sym, refl, ap, ◌∙◌, subst, ⊎_elim, true≢false, arith, ltb-false, ltb-true}
use Rattle.wire.specs.Outcome.{refused, number_of}
use Rattle.wire.specs.Fields.{fault_as}
use Rattle.wire.specs.Message.{type_of, fault_in}
use Rattle.wire.specs.FirstBad.{FirstBadOf, Locates}
use Rattle.wire.specs.declared.Message.{Message}
use Rattle.markets.specs.declared.Market.{Market}
use Rattle.wire.proofs.Cases.{done_is_not_refused}
use Rattle.wire.proofs.Offsets.{locates_none, field_locates}
use Rattle.places.specs.Places.{among}
use Rattle.symbols.specs.declared.registering.Listing.{Listing}
use Rattle.book.specs.State.{view, Wf}
use Rattle.book.specs.declared.Book.{Book}
use Rattle.columns.specs.Held.{room}
use Rattle.page.specs.Printing.{has_no_line, last_second, FirstBadOn, laid_if, laid, line_by, line_of}
use Rattle.page.specs.Laying.{Lays}
use Rattle.page.specs.declared.laying.Laid.{Laid}
use Rattle.page.proofs.Passing.{lay_moves, laying_ends}

-- ---- a line: 0, 3, 4, 5, 14 and 15; the end, and the levels: 0 and 15
laid_if_answers : (short : Bool) (line out : List ℕ) → among (number_of (laid_if short line out).outcome) (0 ∷ 15 ∷ []) ≡ true
unfolding among
laid_if_answers true line out = refl
laid_if_answers false line out = refl

pub laid_answers : (line out : List ℕ) → among (number_of (laid line out).outcome) (0 ∷ 15 ∷ []) ≡ true
unfolding laid
laid_answers line out = laid_if_answers (ltb (length out) (length line)) line out

by_checks : (no_line : Bool) (bad : Option ℕ) (known late short : Bool) (line out : List ℕ) → ltb (length out) (length line) ≡ short → among (number_of (line_by no_line bad known late line out).outcome) (0 ∷ 3 ∷ 4 ∷ 5 ∷ 14 ∷ 15 ∷ []) ≡ true
unfolding line_by laid among
by_checks true bad known late short line out e = refl
by_checks false (Some n) known late short line out e = refl
by_checks false None false late short line out e = refl
by_checks false None true true short line out e = refl
by_checks false None true false true line out e = rw e
by_checks false None true false false line out e = rw e

pub line_answers : (market : Market) (s : Option Listing) (m : Message) (plain : List ℕ) (sequence second : ℕ) (out : List ℕ) → among (number_of (line_of market s m plain sequence second out).outcome) (0 ∷ 3 ∷ 4 ∷ 5 ∷ 14 ∷ 15 ∷ []) ≡ true
unfolding line_of
line_answers market s m plain sequence second out = by_checks _ _ _ _ _ _ out refl

-- ---- the offset: with a bad field where the first one stands, with every other answer 0
module _ (market : Market) (m : Message) (plain : List ℕ) where
  -- of a message that has a line the test of its fields says it all
  with_line : has_no_line (type_of m) ≡ false → (number offset : ℕ) → Locates (FirstBadOf market m plain) number offset → Locates (FirstBadOn market m plain) number offset
  with_line type number offset l = record { bad_field = λ four. record { has_line = type; first = l.bad_field four }; answered = λ n x. l.answered n x.first; no_field = l.no_field }

  -- where none is bad
  none_bad : fault_in market m plain ≡ None → (n : ℕ) → FirstBadOn market m plain n → ⊥
  none_bad e n x =
      let four = ((field_locates market m plain).answered n x.first).0 in
      omega (arith, sym (ap (λ (y : Option ℕ). number_of (fault_as y).outcome) e) ∙ four)

  laid_nowhere : fault_in market m plain ≡ None → (short : Bool) (line out : List ℕ) → Locates (FirstBadOn market m plain) (number_of (laid_if short line out).outcome) (laid_if short line out).offset
  laid_nowhere e true line out = locates_none (FirstBadOn market m plain) 15 (λ z. omega (arith, z)) (none_bad e)
  laid_nowhere e false line out = locates_none (FirstBadOn market m plain) 0 (λ z. omega (arith, z)) (none_bad e)

  by_fault : (no_line : Bool) → has_no_line (type_of m) ≡ no_line → (bad : Option ℕ) → fault_in market m plain ≡ bad → (known late : Bool) (line out : List ℕ)
      → Locates (FirstBadOn market m plain) (number_of (line_by no_line bad known late line out).outcome) (line_by no_line bad known late line out).offset
  unfolding line_by laid
  by_fault true q bad e known late line out = locates_none (FirstBadOn market m plain) 3 (λ z. omega (arith, z)) (λ n x. true≢false (sym q ∙ x.has_line))
  by_fault false q (Some k) e known late line out =
      with_line q 4 k (subst (λ (y : Option ℕ). Locates (FirstBadOf market m plain) (number_of (fault_as y).outcome) (fault_as y).offset) e (field_locates market m plain))
  by_fault false q None e false late line out = locates_none (FirstBadOn market m plain) 5 (λ z. omega (arith, z)) (none_bad e)
  by_fault false q None e true true line out = locates_none (FirstBadOn market m plain) 14 (λ z. omega (arith, z)) (none_bad e)
  by_fault false q None e true false line out = laid_nowhere e (ltb (length out) (length line)) line out

  pub line_locates : (s : Option Listing) (sequence second : ℕ) (out : List ℕ)
      → Locates (FirstBadOn market m plain) (number_of (line_of market s m plain sequence second out).outcome) (line_of market s m plain sequence second out).offset
  unfolding line_of
  line_locates s sequence second out = by_fault (has_no_line (type_of m)) refl (fault_in market m plain) refl _ _ _ out

-- ---- refused, the buffer is as it was
laid_if_refused : (short : Bool) (line out : List ℕ) (k : ℕ) → (laid_if short line out).outcome ≡ refused k → (laid_if short line out).out ≡ out
laid_if_refused true line out k e = refl
laid_if_refused false line out k e = absurd (done_is_not_refused (sym e))

pub laid_refused : (line out : List ℕ) (k : ℕ) → (laid line out).outcome ≡ refused k → (laid line out).out ≡ out
unfolding laid
laid_refused line out k e = laid_if_refused (ltb (length out) (length line)) line out k e

by_refusal : (no_line : Bool) (bad : Option ℕ) (known late : Bool) (line out : List ℕ) (k : ℕ) → (line_by no_line bad known late line out).outcome ≡ refused k → (line_by no_line bad known late line out).out ≡ out
unfolding line_by
by_refusal true bad known late line out k e = refl
by_refusal false (Some n) known late line out k e = refl
by_refusal false None false late line out k e = refl
by_refusal false None true true line out k e = refl
by_refusal false None true false line out k e = laid_refused line out k e

pub line_refused : (market : Market) (s : Option Listing) (m : Message) (plain : List ℕ) (sequence second : ℕ) (out : List ℕ) (k : ℕ) → (line_of market s m plain sequence second out).outcome ≡ refused k → (line_of market s m plain sequence second out).out ≡ out
unfolding line_of
line_refused market s m plain sequence second out k e = by_refusal _ _ _ _ _ out k e

-- ---- a laying: 1, 2 and 15, and 14 past the last second alone
one_two_fifteen : (a : ℕ) → ((1 ≤ a) × (a ≤ 2)) ⊎ (a ≡ 15) → (among a (1 ∷ 2 ∷ 14 ∷ 15 ∷ []) ≡ true) × (a ≡ 14 → ⊥)
unfolding among
one_two_fifteen a x = ⊎_elim (λ y. (small a y.0 y.1, λ z. omega (arith, z, y.1))) (λ e. (rw e, λ z. omega (arith, z, e))) x
  where
    small : (k : ℕ) → 1 ≤ k → k ≤ 2 → among k (1 ∷ 2 ∷ 14 ∷ 15 ∷ []) ≡ true
    small zero h l = absurd (omega (arith, h))
    small (suc zero) h l = refl
    small (suc (suc zero)) h l = refl
    small (suc (suc (suc k))) h l = absurd (omega (arith, l))

module _ {b : Book} {stream : List ℕ} {from place second : ℕ} {before : List ℕ} {r : Laid} {after : List ℕ} (w : Wf b) (lays : Lays b stream from place second before r after) where
  in_the_day : second ≤ last_second → (among r.answer (1 ∷ 2 ∷ 14 ∷ 15 ∷ []) ≡ true) × (r.answer ≡ 14 → ⊥)
  in_the_day day =
      one_two_fifteen r.answer
      (rw (lays.obeys day w).answer (laying_ends second (length before) (view b) stream from place))

  pub laying_answers : among r.answer (1 ∷ 2 ∷ 14 ∷ 15 ∷ []) ≡ true
  unfolding among
  laying_answers = go (ltb last_second second) refl
    where
      go : (late : Bool) → ltb last_second second ≡ late → among r.answer (1 ∷ 2 ∷ 14 ∷ 15 ∷ []) ≡ true
      go true e = rw (ap (λ (x : Laid). x.answer) (lays.late (ltb-true last_second second e)).0)
      go false e = (in_the_day (ltb-false last_second second e)).0

  pub only_late : r.answer ≡ 14 → last_second < second
  only_late e = go (ltb last_second second) refl
    where
      go : (late : Bool) → ltb last_second second ≡ late → last_second < second
      go true q = ltb-true last_second second q
      go false q = absurd ((in_the_day (ltb-false last_second second q)).1 e)

  -- with room for one text, 15 has moved on
  pub laying_moves : room ≤ length before → r.answer ≡ 15 → from < r.at
  laying_moves fits e = go (ltb last_second second) refl
    where
      go : (late : Bool) → ltb last_second second ≡ late → from < r.at
      go true q = absurd (omega (arith, e, ap (λ (x : Laid). x.answer) (lays.late (ltb-true last_second second q)).0))
      go false q =
          let o = lays.obeys (ltb-false last_second second q) w in
          rw o.at (lay_moves second (length before) (view b) stream from place fits (sym o.answer ∙ e))

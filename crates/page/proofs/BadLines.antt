-- A message with a bad field is printed as `R,4,place,offset`, in any state: reading refuses it, whatever the book holds, and hands on where that field stands.
use Rattle.std.proofs.Common.{◌≡◌, ℕ, List, [], ◌∷◌, ap, ◌∙◌, arith}
use Rattle.wire.specs.Reading.{read_of}
use Rattle.wire.specs.FirstBad.{FirstBadIn}
use Rattle.wire.proofs.Offsets.{read_locates}
use Rattle.book.specs.State.{View}
use Rattle.book.specs.Step.{step_in}
use Rattle.book.proofs.Answers.{four_is_read}
use Rattle.columns.specs.Columns.{number, rendered}
use Rattle.page.specs.Printout.{letter_r, passed_text}
use Rattle.page.proofs.Printouts.{passed_refused, refusal_bad_field}

pub bad_field_is_told : (v : View) (m : List ℕ) (n place second : ℕ) → FirstBadIn v.market m n
    → passed_text v.market (step_in v m) m place second ≡ rendered (letter_r ∷ number 4 ∷ number place ∷ number n ∷ [])
bad_field_is_told v m n place second first =
    let x = step_in v m in
    let found = (read_locates v.market m).answered n first in
    let four : x.answer ≡ 4 = (four_is_read v (read_of v.market m)).1 found.0 in
    passed_refused v.market x.view m x.answer place second (λ zero. omega (arith, four, zero))
    ∙ ap rendered (refusal_bad_field x.answer (read_of v.market m).offset place four)
    ∙ (λ i. rendered (letter_r ∷ number (four i) ∷ number place ∷ number (found.1 i) ∷ []))

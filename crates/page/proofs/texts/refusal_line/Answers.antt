-- The columns and the line feed are all held, since a refusal has room.
use Rattle.std.proofs.Common.{true, false, [], ◌∷◌, sym, ap, ◌∙◌}
use Rattle.columns.specs.Columns.{number, joined, rendered}
use Rattle.columns.specs.Held.{Adds}
use Rattle.page.specs.Printout.{letter_r}
use Rattle.columns.proofs.Holding.{adds_then, adds_last, holds_first, holds_then, held_all}
use Rattle.page.proofs.Printouts.{refusal_within, refusal_bad_field, refusal_other}
use Rattle.page.proofs.texts.refusal_line.Goals as goal
use Rattle.page.proofs.texts.refusal_line.Goals.{then-answer-eq4, else-answer-eq4}

pub returns : goal.returns
unfolding rendered
returns c = let a = c.args in
    elim c.if-answer-eq4.branch [
      | then-answer-eq4 w ↦
          let all : Adds c.blank-l.result (joined (letter_r ∷ number a.answer ∷ number a.place ∷ number a.offset ∷ [])) c.if-answer-eq4.l = rw w.l-is (adds_then c.push.ensures (adds_then c.number_column.ensures (adds_then c.number_column-2.ensures (adds_last w.number_column-then-answer-eq4.ensures)))) in
          held_all (refusal_within true a.answer a.offset a.place) (holds_then (holds_first c.blank-l.ensures all) c.push-2.ensures)
          ∙ ap rendered (sym (refusal_bad_field a.answer a.offset a.place w.if-answer-eq4.true))
      | else-answer-eq4 w ↦
          let all : Adds c.blank-l.result (joined (letter_r ∷ number a.answer ∷ number a.place ∷ [])) c.if-answer-eq4.l = rw w.l-is (adds_then c.push.ensures (adds_then c.number_column.ensures (adds_last c.number_column-2.ensures))) in
          held_all (refusal_within false a.answer a.offset a.place) (holds_then (holds_first c.blank-l.ensures all) c.push-2.ensures)
          ∙ ap rendered (sym (refusal_other a.answer a.offset a.place w.if-answer-eq4.false))
    ]

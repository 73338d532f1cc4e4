-- Each of the 13 arms is a clause of `meant`.
use mathlib.Core.Path.{sym, ap, ◌∙◌}
use Rattle.book.specs.Step.{meant}
use Rattle.book.proofs.acts.act_of.Goals as goal

pub returns-in-Add : goal.returns-in-Add
unfolding meant
returns-in-Add c = rw c.in-Add.is c.numbered.ensures

pub returns-in-Modify : goal.returns-in-Modify
unfolding meant
returns-in-Modify c = rw c.in-Modify.is c.numbered-in-Modify.ensures

pub returns-in-Delete : goal.returns-in-Delete
unfolding meant
returns-in-Delete c = rw c.in-Delete.is c.numbered-in-Delete.ensures

pub returns-in-Execute : goal.returns-in-Execute
unfolding meant
returns-in-Execute c = c.numbered-in-Execute.ensures ∙ (rw c.if_printable.ensures) ∙ sym (ap meant c.in-Execute.is)

pub returns-in-Replace : goal.returns-in-Replace
unfolding meant
returns-in-Replace c = rw c.in-Replace.is c.numbered-in-Replace.ensures

pub returns-in-Imbalance : goal.returns-in-Imbalance
unfolding meant
returns-in-Imbalance c = rw c.in-Imbalance.is c.numbered-in-Imbalance.ensures

pub returns-in-NonDisplayed : goal.returns-in-NonDisplayed
unfolding meant
returns-in-NonDisplayed c = c.numbered-in-NonDisplayed.ensures ∙ (rw c.if_printable-in-NonDisplayed.ensures) ∙ sym (ap meant c.in-NonDisplayed.is)

pub returns-in-Cross : goal.returns-in-Cross
unfolding meant
returns-in-Cross c = rw c.in-Cross.is c.numbered-in-Cross.ensures

pub returns-in-TradeCancel : goal.returns-in-TradeCancel
unfolding meant
returns-in-TradeCancel c = rw c.in-TradeCancel.is c.numbered-in-TradeCancel.ensures

pub returns-in-CrossCorrection : goal.returns-in-CrossCorrection
unfolding meant
returns-in-CrossCorrection c = rw c.in-CrossCorrection.is c.numbered-in-CrossCorrection.ensures

pub returns-in-Retail : goal.returns-in-Retail
unfolding meant
returns-in-Retail c = rw c.in-Retail.is c.numbered-in-Retail.ensures

pub returns-in-Clear : goal.returns-in-Clear
unfolding meant
returns-in-Clear c = sym (ap meant c.in-Clear.is)

pub returns-in-Status : goal.returns-in-Status
unfolding meant
returns-in-Status c = rw c.in-Status.is c.numbered-in-Status.ensures

-- As many of the last digits as n has are all of them.
use mathlib.Core.Path.{ap, ◌∙◌}
use Rattle.columns.specs.Text.{fixed}
use Rattle.columns.proofs.Digits.{fixed_all}
use Rattle.columns.proofs.Line.put_number.Goals as goal

pub returns : goal.returns
returns c = let n = c.args.n in
    rw (← (ap (λ w. fixed w n) c.width.ensures ∙ fixed_all n)) c.put_fixed.ensures

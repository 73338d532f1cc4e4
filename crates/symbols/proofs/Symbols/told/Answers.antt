-- The place that was found has what its entry shows.
use Rattle.symbols.proofs.Entering.{told_missing, told_at}
use Rattle.symbols.proofs.Symbols.told.Goals as goal

pub returns-in_err-k : goal.returns-in_err-k
returns-in_err-k c = rw c.from_residual.ensures (told_missing c.args.self.now c.args.index c.in_err-k.ensures)

pub returns : goal.returns
returns c = told_at _ _ _ c.in_ok-k.ensures.0 c.in_ok-k.ensures.1

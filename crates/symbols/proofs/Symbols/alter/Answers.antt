-- The place that is stored stands so, and its entry with it.
use Rattle.std.proofs.Common.{rules}
use Rattle.symbols.proofs.Altering.{stands, stands_nowhere}
use Rattle.symbols.proofs.Symbols.alter.Goals as goal

pub returns-then-k-lt-SYMBOLS : goal.returns-then-k-lt-SYMBOLS
returns-then-k-lt-SYMBOLS g c = (c.change-s.result, rw (← c.standing.ensures) c.change-s.ensures, stands c.args.self.now c.args.k (λ t. c.change-s.result) c.if-k-lt-SYMBOLS.true (search rules))

pub returns : goal.returns
returns g c = (c.change-s.result, rw (← c.standing.ensures) c.change-s.ensures, stands_nowhere _ _ _ c.if-k-lt-SYMBOLS.false)

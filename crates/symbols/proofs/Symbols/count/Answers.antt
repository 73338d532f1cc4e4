-- Where the symbol stood is known, so what is stored is the rule's.
use Rattle.std.proofs.Common.{rules}
use Rattle.symbols.specs.Turns.{counted_if}
use Rattle.symbols.proofs.Altering.{alters}
use Rattle.symbols.proofs.Symbols.count.Goals as goal

pub returns : goal.returns
returns c = alters c.args.self.now c.args.k (counted_if c.args.lost) c.alter.ensures.0 _ (search rules) c.alter.ensures.2

-- Where the symbol stood is known, so what is stored is the rule's.
use Rattle.std.proofs.Common.{rules}
use Rattle.symbols.specs.Turns.{restarted}
use Rattle.symbols.proofs.Altering.{alters}
use Rattle.symbols.proofs.Symbols.restart.Goals as goal

pub returns : goal.returns
returns c = alters c.args.self.now c.args.k (restarted c.args.next) c.alter.ensures.0 _ (search rules) c.alter.ensures.2

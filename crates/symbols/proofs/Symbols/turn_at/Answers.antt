-- The place stands as its entry does, and the turn is tested on that.
use mathlib.Core.Option.{Option}
use mathlib.Core.Path.{sym, ap, ◌∙◌}
use Rattle.symbols.specs.State.{Entry}
use Rattle.symbols.specs.Turns.{turn_at}
use Rattle.symbols.proofs.Entries.{entry_past, entry_at}
use Rattle.symbols.proofs.Symbols.turn_at.Goals as goal

pub returns-then-k-ge-SYMBOLS : goal.returns-then-k-ge-SYMBOLS
unfolding turn_at
returns-then-k-ge-SYMBOLS c = sym (ap (λ (x : Option Entry). turn_at x c.args.number) (entry_past c.args.self.now c.args.k c.if-k-ge-SYMBOLS.true))

pub returns : goal.returns
returns c = c.turn_of.ensures ∙ sym (ap (λ (x : Option Entry). turn_at x c.args.number) (entry_at c.args.self.now c.args.k c.if-k-ge-SYMBOLS.false))

-- The place stands as its entry does.
use mathlib.Core.Path.{sym, ap}
use Rattle.symbols.specs.Turns.{standing_of}
use Rattle.symbols.proofs.Entries.{entry_past, entry_there, entry_missing}
use Rattle.symbols.proofs.Symbols.standing.Goals as goal

pub returns-then-k-ge-SYMBOLS : goal.returns-then-k-ge-SYMBOLS
unfolding standing_of
returns-then-k-ge-SYMBOLS c = sym (ap standing_of (entry_past c.args.self.now c.args.k c.if-k-ge-SYMBOLS.true))

pub returns-then-p : goal.returns-then-p
unfolding standing_of
returns-then-p c = sym (ap standing_of (entry_there c.args.self.now c.args.k c.if-k-ge-SYMBOLS.false c.if-p.true))

pub returns : goal.returns
unfolding standing_of
returns c = sym (ap standing_of (entry_missing c.args.self.now c.args.k c.if-k-ge-SYMBOLS.false c.if-p.false))

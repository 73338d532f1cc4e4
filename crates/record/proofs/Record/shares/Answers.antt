-- Past the eighth symbol there are none. The sum over what is kept is that over its places.
use mathlib.Core.Path.{sym, ap}
use native.Mathlib.Omega.{arith}
use borrow.Author.Rules.{rules}
use Rattle.places.specs.Places.{sum_by}
use Rattle.record.specs.Rules.{shares_of}
use Rattle.record.proofs.Storing.{none_past}
use Rattle.record.proofs.Sums.{shares_lent}
use Rattle.record.proofs.Record.shares.Goals as goal

pub returns-then-k-ge-SYMBOLS : goal.returns-then-k-ge-SYMBOLS
unfolding shares_of sum_by
returns-then-k-ge-SYMBOLS c = sym (ap shares_of (none_past c.args.self.now c.args.k (search rules) (search rules) c.if-k-ge-SYMBOLS.true))

pub returns : goal.returns
returns c = rw (c.shares_on.ensures.sum, c.shares_on-2.ensures.sum) (shares_lent c.args.self.now c.args.k _ (omega arith) _ (omega arith))

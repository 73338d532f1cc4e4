-- By the room: each case is one law of laying a line.
use Rattle.std.proofs.Common.{sym}
use Rattle.page.proofs.Cases.{laid_short, laid_put}
use Rattle.page.proofs.printing.emit.Goals as goal

pub returns-then-out-n : goal.returns-then-out-n
returns-then-out-n c = sym (laid_short c.args.text.now c.args.out.now c.if-out-n.true)

pub returns : goal.returns
returns c = laid_put c.if-out-n.false c.put.ensures

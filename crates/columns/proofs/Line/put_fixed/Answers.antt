-- Before a turn at i the line has all digits but the last i.
use Rattle.columns.proofs.Digits.{fixed_begun, fixed_next}
use Rattle.columns.proofs.Holding.{held_nothing, adds_then}
use Rattle.columns.proofs.Line.put_fixed.Goals as goal

pub loop-i-init : goal.loop-i-init
loop-i-init c = rw (fixed_begun c.args.w c.args.n, ← c.self.view_is) (held_nothing c.self.inside.bytes c.self.inside.len c.self.invariant.0)

pub loop-i-preserved : goal.loop-i-preserved
loop-i-preserved c = rw (fixed_next c.args.w c.args.n c.loop-i.i _ c.loop-i-test.true c.loop-i.auto.i c.units.ensures) (adds_then c.loop-i.invariant c.push.ensures)

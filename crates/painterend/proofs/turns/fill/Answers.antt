-- What a read brings stands behind the bytes that are kept.
use native.Mathlib.Omega.{arith}
use Rattle.painterend.proofs.Passed.{read_takes}
use Rattle.painterend.proofs.turns.fill.Goals as goal

pub returns-clause-takes : goal.returns-clause-takes
returns-clause-takes g c = read_takes c.args.kept c.args.buffer.now c.read.new.buf c.in_ok-n.n _ _ (omega (arith, c.requires)) c.in_ok-n.ensures.bound.0 c.in_ok-n.ensures.bytes.0

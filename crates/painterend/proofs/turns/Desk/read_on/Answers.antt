-- The bytes that are kept stand before what the read brought.
use native.Mathlib.Omega.{arith}
use borrow.Author.Rules.{rules}
use Rattle.painterend.proofs.Readiness.{turn_reads}
use Rattle.painterend.proofs.Passed.{reads_read}
use Rattle.painterend.proofs.turns.Desk.read_on.Goals as goal

pub returns-clause-turn : goal.returns-clause-turn
returns-clause-turn g c =
    let b = c.fill-got.ensures.brings in
    rw c.heed.ensures.part (turn_reads c.args.l c.args.kept c.args.self.now.buffer c.fill-got.new.buffer c.args.self.now.sheet _ c.fill-got.result c.heed.result c.requires.0 (search rules) (search rules) c.requires.1 c.requires.2 b c.heed.ensures.heeds)

pub returns-clause-reads : goal.returns-clause-reads
returns-clause-reads g c =
    let f = c.fill-got.ensures in
    rw c.heed.ensures.part (reads_read c.args.l c.fill-got.new.buffer _ _ _ c.args.kept c.args.self.now.buffer c.args.self.now.sheet (omega (arith, c.requires.0)) c.fill-got.result c.heed.result f.brings.counted c.heed.ensures.heeds f.takes f.ended)

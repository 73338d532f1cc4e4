-- The end has room, so it is laid whole.
use mathlib.Core.Path.{refl}
use Rattle.painterend.proofs.Readiness.{end_laid}
use Rattle.painterend.proofs.turns.lay_ending.Goals as goal

pub returns : goal.returns
returns c =
    let p = c.lay_end-end.ensures in
    let e = end_laid _ c.args.sheet.now _ c.lay_end-end.result c.count_of.result p.fits c.requires p.out_after c.count_of.ensures in
    record { text = e.0; within = e.1; over = refl }

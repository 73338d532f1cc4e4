-- What is laid of a part leaves room to read more.
use native.Mathlib.Omega.{arith}
use borrow.Author.Rules.{rules}
use Rattle.painterend.proofs.Readiness.{filled_laid}
use Rattle.painterend.proofs.turns.lay_filled.Goals as goal

pub returns : goal.returns
returns c =
    let a = c.args in
    filled_laid a.l a.part.now a.sheet.now c.lay.result _ c.requires.0 c.requires.1 (λ i. omega (arith, c.type_inv.part i)) (search rules) c.lay.ensures

-- No place before the first hit has the number, and without a hit none has it.
use mathlib.Core.Path.{◌≡◌, sym, ◌∙◌}
use Prim.Native.Nat.{◌+◌, ◌≤◌, ◌<◌}
use lib.ListN.{length}
use native.Mathlib.Omega.{arith}
use borrow.Author.Tests.{eq-eqb}
use Rattle.places.proofs.Rounds.{inside}
use Rattle.places.proofs.Ticketing.{first_outside, first_found}
use Rattle.places.proofs.Shelf.first.Goals as goal

pub returns-then-lies_outside : goal.returns-then-lies_outside
returns-then-lies_outside c = let e = first_outside c.args.numbers.now c.args.self.from c.args.self.each c.args.number _ c.lies_outside.ensures c.if-lies_outside.true in omega (arith, e)

pub loop-j-init : goal.loop-j-init
loop-j-init c = let fits = (inside _ _ _ (sym c.lies_outside.ensures ∙ c.if-lies_outside.false)).fits in (omega (arith, fits, c.from-n.ensures), λ i h. absurd (omega (arith, h)))

pub returns-then-numbers-self : goal.returns-then-numbers-self
returns-then-numbers-self c =
    let a = c.args in
    let l = c.loop-j in
    let within : l.j < a.self.each = omega (arith, c.loop-j-test.true, c.from-n.ensures) in
    (sym (first_found a.numbers.now a.self.from a.self.each a.number (sym c.lies_outside.ensures ∙ c.if-lies_outside.false) l.j (omega (arith, within)) l.invariant.1 (λ h. eq-eqb _ _ c.if-numbers-self.true)), within)

pub returns : goal.returns
returns c =
    let a = c.args in
    let l = c.loop-j in
    let e = first_found a.numbers.now a.self.from a.self.each a.number (sym c.lies_outside.ensures ∙ c.if-lies_outside.false) a.self.each (omega arith)
    (λ i h. l.invariant.1 i (omega (arith, h, c.loop-j-test.false, c.from-n.ensures))) (λ h. absurd (omega (arith, h))) in
    omega (arith, e)

-- Beyond the places still to pass nothing of the home lives, so the first hit from above is the last of the home.
use mathlib.Core.Path.{◌≡◌, sym, ◌∙◌}
use Prim.Native.Nat.{◌+◌, ◌-◌}
use native.Mathlib.Omega.{arith}
use Rattle.places.proofs.Rounds.{remains_less}
use Rattle.places.proofs.Sought.{stands, lowered_outside, lowered_none, lowered_here}
use Rattle.places.proofs.Shelf.lowered.Goals as goal

pub returns-then-lies_outside : goal.returns-then-lies_outside
returns-then-lies_outside c = let a = c.args in
    lowered_outside a.numbers.now a.lives.now a.self.from a.self.each a.number a.span _ _ _ c.from-n.ensures c.min-shortest.ensures c.lies_outside.ensures c.if-lies_outside.true

pub loop-j-init : goal.loop-j-init
loop-j-init c = let n = c.from-n.ensures in
    let z = stands _ _ _ _ _ _ _ n c.home_of-home.ensures c.lies_outside.ensures c.if-lies_outside.false in
    (omega (arith, c.capped-j.ensures, n), (z.home, omega (arith, n)), (omega (arith, z.fits, c.min-shortest.ensures), omega (arith, z.fits, c.min-shortest.ensures)), rw c.capped-j.ensures)

pub returns : goal.returns
returns c = let a = c.args in
    let l = c.loop-j in
    lowered_none a.numbers.now a.lives.now a.self.from a.self.each a.number a.span _ _ _
    c.from-n.ensures c.min-shortest.ensures c.lies_outside.ensures c.if-lies_outside.false _ c.home_of-home.ensures l.j l.invariant.3 (omega arith)

pub returns-then-has_home : goal.returns-then-has_home
returns-then-has_home c = let a = c.args in
    let l = c.loop-j in
    let add_back : l.j - 1 + 1 ≡ l.j = omega arith in
    rw add_back (lowered_here a.numbers.now a.lives.now a.self.from a.self.each a.number a.span _ _ _
    c.from-n.ensures c.min-shortest.ensures c.lies_outside.ensures c.if-lies_outside.false
    _ c.home_of-home.ensures l.j l.invariant.3 _ c.round_from-i.ensures.0 (omega arith) (sym c.has_home.ensures ∙ c.if-has_home.true))

pub loop-j-preserved : goal.loop-j-preserved
loop-j-preserved c = let l = c.loop-j in
    (omega arith, l.invariant.1, l.invariant.2, remains_less _ _ _ _ l.j (omega arith) (rw c.round_from-i.ensures.0 at (sym c.has_home.ensures ∙ c.if-has_home.false)) l.invariant.3)

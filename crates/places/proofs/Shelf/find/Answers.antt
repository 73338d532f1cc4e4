-- What the places passed leave to the search is what it looks for, so a hit is its place and the end of the span says that it is nowhere.
use mathlib.Core.Path.{sym, ◌∙◌}
use native.Mathlib.Omega.{arith}
use Rattle.places.proofs.Rounds.{leaves_all, leaves_more}
use Rattle.places.proofs.Sought.{none_at, stands, sought_outside, sought_nowhere, sought_here}
use Rattle.places.proofs.Shelf.find.Goals as goal

pub returns-then-lies_outside : goal.returns-then-lies_outside
returns-then-lies_outside c = let a = c.args in
    none_at _ _ _ c.from-n.ensures (sought_outside a.numbers.now a.lives.now a.spans.now a.self.from a.self.each a.number _ _ _ c.from-n.ensures (rw c.min.ensures at c.min-shortest.ensures) c.lies_outside.ensures c.if-lies_outside.true)

pub overflow_add-h : goal.overflow_add-h
overflow_add-h c = omega (arith, stands _ _ _ _ _ _ _ c.from-n.ensures c.home_of-home.ensures c.lies_outside.ensures c.if-lies_outside.false)

pub offset_bounds-spans-h : goal.offset_bounds-spans-h
offset_bounds-spans-h c = omega (arith, stands _ _ _ _ _ _ _ c.from-n.ensures c.home_of-home.ensures c.lies_outside.ensures c.if-lies_outside.false, c.min-shortest.ensures)

pub bounds-spans-h : goal.bounds-spans-h
bounds-spans-h c = omega (arith, stands _ _ _ _ _ _ _ c.from-n.ensures c.home_of-home.ensures c.lies_outside.ensures c.if-lies_outside.false, c.min-shortest.ensures)

pub loop-j-init : goal.loop-j-init
loop-j-init c = let n = c.from-n.ensures in
    let z = stands _ _ _ _ _ _ _ n c.home_of-home.ensures c.lies_outside.ensures c.if-lies_outside.false in
    ((omega arith, omega (arith, c.capped-span.ensures, n)), (z.home, omega (arith, n)), (omega (arith, z.fits, c.min-shortest.ensures, c.min.ensures), omega (arith, z.fits, c.min-shortest.ensures, c.min.ensures)), leaves_all _ _ _ _)

pub loop-j-preserved : goal.loop-j-preserved
loop-j-preserved c = let l = c.loop-j in
    ((omega arith, l.invariant.0.1), l.invariant.1, l.invariant.2, leaves_more _ _ _ _ l.j (omega arith) (rw c.round_from-i.ensures.0 at (sym c.is_held.ensures ∙ c.if-is_held.false)) l.invariant.3)

pub returns-then-span-j : goal.returns-then-span-j
returns-then-span-j c = let a = c.args in
    let l = c.loop-j in
    none_at _ _ _ c.from-n.ensures (sought_nowhere a.numbers.now a.lives.now a.spans.now a.self.from a.self.each a.number _ _ _ c.from-n.ensures
    (rw c.min.ensures at c.min-shortest.ensures) c.lies_outside.ensures
    c.if-lies_outside.false _ _ c.home_of-home.ensures c.capped-span.ensures l.j l.invariant.3 c.if-span-j.true)

pub returns-then-is_held : goal.returns-then-is_held
returns-then-is_held c = let a = c.args in
    let l = c.loop-j in (
      sought_here a.numbers.now a.lives.now a.spans.now a.self.from a.self.each a.number _ _ _ c.from-n.ensures
          (rw c.min.ensures at c.min-shortest.ensures) c.lies_outside.ensures
          c.if-lies_outside.false _ _ c.home_of-home.ensures c.capped-span.ensures l.j l.invariant.3 _
          c.round_from-i.ensures.0 (omega arith) (sym c.is_held.ensures ∙ c.if-is_held.true),
      omega (arith, c.round_from-i.ensures.1, c.from-n.ensures),
    )

-- The places passed are live, so an empty one is room and the way round says that there is none.
use mathlib.Core.Bool.{not}
use mathlib.Core.Path.{ap}
use native.Mathlib.Omega.{arith}
use Rattle.places.proofs.Rounds.{leaves_all, leaves_more}
use Rattle.places.proofs.Sought.{none_at, stands, room_outside, room_nowhere, room_here}
use Rattle.places.proofs.Shelf.room.Goals as goal

pub returns-then-lies_outside : goal.returns-then-lies_outside
returns-then-lies_outside c = let a = c.args in
    none_at _ _ _ c.from-n.ensures (room_outside a.lives.now a.self.from a.self.each a.number _ _ c.from-n.ensures c.lies_outside.ensures c.if-lies_outside.true)

pub loop-j-init : goal.loop-j-init
loop-j-init c = let z = stands _ _ _ _ _ _ _ c.from-n.ensures c.home_of-home.ensures c.lies_outside.ensures c.if-lies_outside.false in
    (omega arith, (z.home, omega (arith, c.from-n.ensures)), z.fits, leaves_all _ _ _ _)

pub loop-j-preserved : goal.loop-j-preserved
loop-j-preserved c = let l = c.loop-j in
    (omega arith, l.invariant.1, l.invariant.2, leaves_more _ _ _ _ l.j (omega arith) (ap not (rw c.round_from-i.ensures.0 at c.if-not-lives-p.false)) l.invariant.3)

pub returns : goal.returns
returns c = let a = c.args in
    let l = c.loop-j in
    none_at _ _ _ c.from-n.ensures (room_nowhere a.lives.now a.self.from a.self.each a.number _ _
    c.from-n.ensures c.lies_outside.ensures c.if-lies_outside.false _ c.home_of-home.ensures l.j l.invariant.3 (omega arith))

pub returns-then-not-lives-p : goal.returns-then-not-lives-p
returns-then-not-lives-p c = let a = c.args in
    let l = c.loop-j in (
      room_here a.lives.now a.self.from a.self.each a.number _ _
          c.from-n.ensures c.lies_outside.ensures c.if-lies_outside.false _ c.home_of-home.ensures l.j l.invariant.3 _
          c.round_from-i.ensures.0 (omega arith) c.if-not-lives-p.true,
      omega (arith, c.round_from-i.ensures.1, c.from-n.ensures),
    )

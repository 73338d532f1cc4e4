-- By why the last laying ended: the end is laid, or what was left is carried to the front and laid again, or more is read behind it.
use mathlib.Core.List.{List}
use mathlib.Core.Logic.{⊎_elim}
use mathlib.Core.Path.{◌≡◌, refl, subst}
use Prim.Native.Nat.{ℕ}
use native.Mathlib.Omega.{arith}
use borrow.Author.Rules.{rules}
use Rattle.std.specs.Prelude.{IfOk}
use Rattle.std.proofs.KnownBytes.{Keeps-refl}
use Rattle.painterend.specs.Turn.{Turn, ReadsOrFails}
use Rattle.painterend.proofs.Readiness.{carried_left, room_to_read, turn_lays}
use Rattle.painterend.proofs.Passed.{reads_laid}
use Rattle.painterend.proofs.turns.Desk.turn.Goals as goal

pub shared_ref_as_front-lay_filled : goal.shared_ref_as_front-lay_filled
shared_ref_as_front-lay_filled g c =
    let front = carried_left c.args.s c.args.self.now.buffer c.carry-kept.new.buffer c.carry-kept.result c.requires (search rules) (search rules) c.carry-kept.ensures in
    omega (arith, front.within, c.carry-kept.auto.buffer)

pub returns-then-l-eq-NO_ROOM-clause-turn : goal.returns-then-l-eq-NO_ROOM-clause-turn
returns-then-l-eq-NO_ROOM-clause-turn g c =
    let front = carried_left c.args.s c.args.self.now.buffer c.carry-kept.new.buffer c.carry-kept.result c.requires (search rules) (search rules) c.carry-kept.ensures in
    turn_lays c.args.s.laid _ _ _ _ c.carry-kept.result c.carry-kept.result _ front (omega arith) front.within (λ z. refl) c.lay_filled.ensures

pub returns-then-l-eq-NO_ROOM-clause-reads : goal.returns-then-l-eq-NO_ROOM-clause-reads
returns-then-l-eq-NO_ROOM-clause-reads g c =
    let front = carried_left c.args.s c.args.self.now.buffer c.carry-kept.new.buffer c.carry-kept.result c.requires (search rules) (search rules) c.carry-kept.ensures in
    reads_laid c.args.s.laid _ _ _ _ _ _ _ c.carry-kept.result front c.lay_filled.ensures (Keeps-refl _)

pub read_on-requires : goal.read_on-requires
read_on-requires g c =
    let r = c.requires in
    let front = carried_left c.args.s c.args.self.now.buffer c.carry-kept.new.buffer c.carry-kept.result r (search rules) (search rules) c.carry-kept.ensures in
    let one : c.args.s.laid.answer ≡ 1 = ⊎_elim (λ z. z) (⊎_elim (λ z. absurd (c.if-l-eq2.false z)) (λ z. absurd (c.if-l-eq-NO_ROOM.false z))) r.why in
    (room_to_read _ c.args.self.now.buffer _ _ r (search rules) one front, one, r.sound)

pub returns-clause-turn : goal.returns-clause-turn
returns-clause-turn g c =
    let front = carried_left c.args.s c.args.self.now.buffer c.carry-kept.new.buffer c.carry-kept.result c.requires (search rules) (search rules) c.carry-kept.ensures in
    subst (λ (l : List ℕ). IfOk c.read_on.result (λ r. Turn c.args.s.laid l r c.read_on.new.self.buffer c.read_on.new.self.sheet)) front.shows c.read_on.ensures.turn

pub returns-clause-reads : goal.returns-clause-reads
returns-clause-reads g c =
    let front = carried_left c.args.s c.args.self.now.buffer c.carry-kept.new.buffer c.carry-kept.result c.requires (search rules) (search rules) c.carry-kept.ensures in
    subst (λ (l : List ℕ). ReadsOrFails c.args.s.laid l c.read_on.result c.read_on.new.self.buffer (g.F.Read.remaining c.args.file.now) (g.F.Read.remaining c.read_on.new.file)) front.shows c.read_on.ensures.reads

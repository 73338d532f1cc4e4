-- A range that is none of the buffer's moves nothing; of one that is, a copy to the front leaves what the rule says.
use mathlib.Core.Path.{sym, ap, ◌∙◌}
use Prim.Native.Nat.{◌-◌}
use Rattle.parts.specs.Carry.{carried}
use Rattle.parts.proofs.Carrying.{carry_turned, carry_beyond, carry_copies}
use Rattle.parts.proofs.carry.Goals as goal

pub returns-then-end-start : goal.returns-then-end-start
returns-then-end-start c = let a = c.args in sym (carry_turned a.buffer.now a.left.start a.left.end c.if-end-start.true)

pub returns-then-buffer-end : goal.returns-then-buffer-end
returns-then-buffer-end c = let a = c.args in sym (carry_beyond a.buffer.now a.left.start a.left.end c.if-end-start.false c.if-buffer-end.true)

pub returns : goal.returns
returns c = let a = c.args in
    ap (carried (a.left.end - a.left.start)) c.copy_within.ensures.after
    ∙ carry_copies a.buffer.now a.left.start a.left.end c.if-end-start.false c.if-buffer-end.false

-- Each number is that of its part of the slice (`value_part`).
use mathlib.Core.Path.{◌∙◌}
use Prim.Native.Nat.{◌+◌}
use Rattle.wire.proofs.Numbers.{value_part}
use Rattle.wire.proofs.fields.fields_at.Goals as goal

pub returns : goal.returns
returns c =
    let at = value_part c.args.s.now in
    let l = c.args.l in
    λ i. record {
      seconds = (c.of.ensures ∙ at 4 l.form) i;
      nanos = (c.of-2.ensures ∙ at l.form (l.form + 4)) i;
      index = (c.of-3.ensures ∙ at (l.form + 4) (l.form + 8)) i;
      number = (c.of-4.ensures ∙ at (l.form + 8) l.order) i;
      order = (c.of-5.ensures ∙ at l.order l.fresh) i;
      fresh = (c.of-6.ensures ∙ at l.fresh l.id) i;
      id = (c.of-7.ensures ∙ at l.id l.price) i;
      price = (c.of-8.ensures ∙ at l.price l.volume) i;
      volume = (c.of-9.ensures ∙ at l.volume l.flag) i;
      flag = (c.of-10.ensures ∙ at l.flag l.side) i;
      side = (c.of-11.ensures ∙ at l.side l.letter) i;
      letter = (c.of-12.ensures ∙ at l.letter l.gap) i;
    }

-- A new state is registered into, by the promise of registering.
use mathlib.Core.Path.{ap, ◌∙◌}
use Rattle.book.specs.State.{View}
use Rattle.book.specs.Registering.{register_of}
use Rattle.painterend.specs.Program.{index, name, scale, start_view}
use Rattle.painterend.proofs.start.Goals as goal

pub returns : goal.returns
unfolding start_view
returns c =
    let f = c.new-b.ensures in
    let o = c.register-r.ensures.obeys f.wf in
    record { wf = o.wf; view_at_start = o.next_view ∙ ap (λ (v : View). (register_of v index name scale).view) f.view_is_new }

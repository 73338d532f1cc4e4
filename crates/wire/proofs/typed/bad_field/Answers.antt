-- By the type's layout: of a known type the first bad field of its layout.
use Rattle.std.specs.Prelude.{Option}
use mathlib.Core.Path.{sym, ap, ◌∙◌}
use Rattle.wire.specs.declared.table.Layout.{Layout}
use Rattle.wire.specs.declared.fields.Fields.{Fields}
use Rattle.wire.specs.Table.{shape_of}
use Rattle.wire.specs.Fields.{array_of, fault_of, fault_as}
use Rattle.wire.specs.Message.{fault_under, fault_in}
use Rattle.wire.proofs.Layouts.{layout_sane}
use native.Mathlib.Omega.{arith}
use Rattle.wire.proofs.Checks.{own_fault}
use Rattle.wire.proofs.typed.bad_field.Goals as goal

pub returns-in_err-l : goal.returns-in_err-l
unfolding fault_in
returns-in_err-l c = let a = c.args in
    ap fault_as (c.from_residual.ensures ∙ ap (λ (y : Option Layout). fault_under y a.market a.m a.plain) (sym c.in_err-l.was ∙ c.shape_of.ensures ∙ ap shape_of c.type_of.ensures))

pub fault_of-requires : goal.fault_of-requires
fault_of-requires c = let sane = layout_sane _ _ (sym c.shape_of.ensures ∙ c.in_ok-l.was) in omega arith

pub returns : goal.returns
unfolding fault_in
returns c = let a = c.args in
    let l = c.in_ok-l.l in
    ap fault_as (c.fault_of.ensures ∙ sym (own_fault a.market l (layout_sane _ _ (sym c.shape_of.ensures ∙ c.in_ok-l.was)) _ a.plain) ∙ ap (λ (f : Fields). fault_of a.market l f (array_of l a.plain)) c.from.ensures.0
    ∙ ap (λ (y : Option Layout). fault_under y a.market a.m a.plain) (sym c.in_ok-l.was ∙ c.shape_of.ensures ∙ ap shape_of c.type_of.ensures))

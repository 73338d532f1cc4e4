-- Each refusal is its clause of the rule, and what is stored at the first empty place makes the new symbol.
use mathlib.Core.Path.{sym, ◌∙◌}
use native.Mathlib.Numerals.{add-one}
use Rattle.symbols.proofs.Sizes.{places_size}
use Rattle.symbols.proofs.Entries.{there_is, there_is_none}
use Rattle.symbols.proofs.Entering.{name_short, refused_scale, refused_name, refused_twice, refused_ninth, enters}
use Rattle.symbols.proofs.Symbols.register.Goals as goal

pub returns-then-scale-gt-MOST_SCALE : goal.returns-then-scale-gt-MOST_SCALE
returns-then-scale-gt-MOST_SCALE c = refused_scale _ _ _ _ c.if-scale-gt-MOST_SCALE.true

pub returns-then-name_bad : goal.returns-then-name_bad
returns-then-name_bad c = refused_name _ _ _ _ c.if-scale-gt-MOST_SCALE.false (sym c.name_bad.ensures ∙ c.if-name_bad.true)

pub returns-then-is_some : goal.returns-then-is_some
returns-then-is_some c = refused_twice _ _ _ _ c.if-scale-gt-MOST_SCALE.false (sym c.name_bad.ensures ∙ c.if-name_bad.false) (there_is _ _ c.place_of.ensures (sym c.is_some.ensures ∙ c.if-is_some.true))

pub returns-in_default : goal.returns-in_default
returns-in_default c = refused_ninth _ _ _ _ c.if-scale-gt-MOST_SCALE.false (sym c.name_bad.ensures ∙ c.if-name_bad.false) (there_is_none _ _ c.place_of.ensures (sym c.is_some.ensures ∙ c.if-is_some.false)) c.in_default.ensures

pub padded_name-kept-requires : goal.padded_name-kept-requires
padded_name-kept-requires c = name_short _ (sym c.name_bad.ensures ∙ c.if-name_bad.false)

pub returns : goal.returns
returns c = rw (c.padded_name-kept.ensures, c.from.ensures, add-one)
    (enters c.args.self c.args.index c.args.name.now c.args.scale c.if-scale-gt-MOST_SCALE.false (sym c.name_bad.ensures ∙ c.if-name_bad.false) (there_is_none _ _ c.place_of.ensures (sym c.is_some.ensures ∙ c.if-is_some.false)) _ c.in-Some.ensures.0 c.in-Some.ensures.1 (places_size c.args.self _ c.well_formed.0))

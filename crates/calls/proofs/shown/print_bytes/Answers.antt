-- One byte more is shown behind those before it.
use Rattle.std.proofs.Common.{[], ◌∷◌, take, get_or, sym, ap, ◌∙◌, subst}
use Rattle.std.specs.Io.KnownBytes.{Appends}
use Rattle.std.proofs.KnownBytes.{Appends-trans}
use Rattle.std.proofs.lemmas.List.{take_more, flat_map_more}
use Rattle.calls.specs.Shown.{comma, hex_of, hex}
use Rattle.calls.proofs.shown.print_bytes.Goals as goal

pub loop-byte-preserved : goal.loop-byte-preserved
loop-byte-preserved g c =
    let before = take c.loop-byte.byte-index c.args.bytes.now in
    let shown = flat_map_more hex_of (comma ∷ []) before (get_or c.args.bytes.now c.loop-byte.byte-index 0) ∙ ap (λ l. comma ∷ hex l) (sym (take_more c.args.bytes.now c.loop-byte.byte-index 0 c.loop-byte-test.true)) in
    subst (Appends _ _) shown (Appends-trans _ _ _ _ _ c.loop-byte.invariant c.in_ok-print_byte.ensures)

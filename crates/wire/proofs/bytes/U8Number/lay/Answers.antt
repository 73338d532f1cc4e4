-- The byte of the number is the number, and it is there or not (`field_laid`).
use mathlib.Core.List.{[], ◌∷◌}
use mathlib.Core.Path.{◌≡◌, ap, ◌∙◌}
use Prim.Native.Nat.{◌%◌}
use native.Mathlib.Omega.{arith}
use Rattle.wire.proofs.Numbers.{field_laid}
use Rattle.wire.proofs.bytes.U8Number.lay.Goals as goal

pub returns : goal.returns
returns c =
    let v = c.args.self in
    let low : v ≡ v % 256 = omega (arith, c.ranges.self.fits) in
    field_laid 1 v c.args.field.now _ c.to_le_bytes-bytes.result c.requires (c.to_le_bytes-bytes.ensures ∙ ap (λ x. x ∷ []) low) c.copy_from_slice.ensures.after

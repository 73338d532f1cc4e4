-- Where the position is beyond the end, there are too few bytes.
use Rattle.std.specs.Prelude.{None, Err}
use Rattle.std.proofs.lemmas.Result.{err_from_is_err_and}
use Rattle.std.proofs.lemmas.Option.{MatchOption-at_none}
use mathlib.Core.Logic.{⊎_elim}
use mathlib.Core.Path.{◌≡◌, sym, ap, ◌∙◌}
use Prim.Native.Nat.{◌<◌}
use native.Mathlib.Omega.{arith}
use lib.ListN.{length, length-drop, drop}
use Rattle.wire.specs.declared.ReachError.{ReachError}
use Rattle.wire.specs.Reading.{reached_as}
use Rattle.wire.proofs.Cases.{reach_short}
use Rattle.wire.proofs.extent.reach_at.Goals as goal

pub returns-in_err-rest : goal.returns-in_err-rest
returns-in_err-rest c =
    let s = c.args.s.now in
    let at = c.args.at in
    let p = err_from_is_err_and c.from_residual.result c.from_residual.ensures.1 in
    let why : c.from_residual.result ≡ Err ReachError.Short = grind (arith, p.1, p.2) in
    let none : c.get.result ≡ None = grind arith in
    let beyond : length s < at = ⊎_elim (λ h. h) (λ h. omega (arith, h)) (MatchOption-at_none _ _ none c.get.ensures.lookup.0) in
    ap reached_as why ∙ sym (reach_short (drop at s) (omega (arith, length-drop at s, beyond)))

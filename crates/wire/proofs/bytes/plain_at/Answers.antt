-- Copied over zeros, the bytes have zeros behind them.
use Rattle.std.proofs.lemmas.List.{drop-replicate}
use mathlib.Core.List.{List, ◌++◌}
use mathlib.Core.Path.{ap, ◌∙◌}
use Prim.Native.Nat.{ℕ}
use lib.ListN.{length, drop, replicate}
use Rattle.wire.specs.Bytes.{plain_room}
use Rattle.wire.proofs.bytes.plain_at.Goals as goal

pub returns : goal.returns
returns c =
    let field = c.args.field.now in
    (λ i. c.copy_from_slice.ensures.after i ++ drop (length field) (replicate plain_room 0)) ∙ ap (λ (l : List ℕ). field ++ l) (drop-replicate (length field) plain_room 0)

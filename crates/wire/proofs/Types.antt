-- A typed message always has a type of the table, so that the writer's answer 3 never arises.
use Rattle.std.specs.Prelude.{Option, Some, None}
use mathlib.Core.Path.{◌≡◌, sym, subst}
use mathlib.Core.List.{List}
use Prim.Native.Nat.{ℕ}
use native.Mathlib.Omega.{arith}
use Rattle.wire.specs.declared.table.Layout.{Layout}
use Rattle.wire.specs.declared.Message.{Message}
use Rattle.markets.specs.declared.Market.{Market}
use Rattle.wire.specs.Outcome.{refused}
use Rattle.wire.specs.Table.{shape_of}
use Rattle.wire.specs.Message.{type_of}
use Rattle.wire.specs.Writing.{Write, write_of}
use Rattle.wire.proofs.Cases.{done_is_not_refused}
use Rattle.wire.proofs.Ways.{HowWritten, unknown_type, bad_field, no_room, all_written, how_written}

abbrev pub IsKnown : Option Layout → Type 0
IsKnown None = ⊥
IsKnown (Some l) = Unit {0}

pub type_known : (m : Message) → IsKnown (shape_of (type_of m))
unfolding shape_of
type_known (Message.Add h o p v s) = tt
type_known (Message.Modify h o p v t s) = tt
type_known (Message.Delete h o) = tt
type_known (Message.Execute h o t p v s) = tt
type_known (Message.Replace h o t p v s) = tt
type_known (Message.Imbalance h s) = tt
type_known (Message.NonDisplayed h t p v s) = tt
type_known (Message.Cross h c p v s) = tt
type_known (Message.TradeCancel h t) = tt
type_known (Message.CrossCorrection h c v) = tt
type_known (Message.Retail h c) = tt
type_known (Message.Clear h s) = tt
type_known (Message.Status h s) = tt

pub writer_never_answers_3 : (market : Market) (m : Message) (plain out : List ℕ) → (write_of market m plain out).outcome ≡ refused 3 → ⊥
writer_never_answers_3 market m plain out = go (write_of market m plain out) (how_written market m plain out)
  where
    go : (w : Write) → HowWritten market m plain out w → w.outcome ≡ refused 3 → ⊥
    go _ (unknown_type q) e = subst IsKnown q (type_known m)
    go _ (bad_field known q) e = let z : ◌≡◌ {A = ℕ} 4 3 = cc in omega arith
    go _ (no_room known good short) e = let z : ◌≡◌ {A = ℕ} 15 3 = cc in omega arith
    go _ (all_written known good fits) e = done_is_not_refused (sym e)

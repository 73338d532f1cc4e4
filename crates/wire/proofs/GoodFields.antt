-- What was read has no bad field: reading refuses one, and what it hands back has the type, the fields and the array that were tested.
use Rattle.std.specs.Prelude.{Option, Some, None}
use mathlib.Core.List.{List}
use mathlib.Core.Path.{◌≡◌, sym, ap, ◌∙◌}
use Prim.Native.Nat.{ℕ}
use Rattle.wire.specs.declared.table.Layout.{Layout}
use Rattle.wire.specs.declared.Message.{Message}
use Rattle.markets.specs.declared.Market.{Market}
use Rattle.wire.specs.Outcome.{done}
use Rattle.wire.specs.Bytes.{padded_plain}
use Rattle.wire.specs.Table.{shape_of}
use Rattle.wire.specs.Fields.{fields_at, array_at, fault_of}
use Rattle.wire.specs.Message.{type_of, fields_of, message_of, fault_under, fault_in}
use Rattle.wire.specs.Reading.{msg_type, Read, read_of}
use Rattle.wire.proofs.Cases.{done_is_not_refused, reached}
use Rattle.wire.proofs.ByteArrays.{array_again}
use Rattle.wire.proofs.Layouts.{layout_sane}
use Rattle.wire.proofs.RoundTrip.{keeps}
use Rattle.wire.proofs.Ways.{HowRead, unreached, unknown_type, other_size, bad_field, good_fields, how_read}

pub read_is_good : (market : Market) (s : List ℕ) (m : Message) → (read_of market s).outcome ≡ done m → fault_in market m (read_of market s).plain ≡ None
unfolding fault_in
read_is_good market s m = go (read_of market s) (how_read market s)
  where
    go : (r : Read) → HowRead market s r → r.outcome ≡ done m → fault_in market m r.plain ≡ None
    go _ (unreached q) e = absurd (done_is_not_refused e)
    go _ (unknown_type there q) e = absurd (done_is_not_refused e)
    go _ (other_size there known q) e = absurd (done_is_not_refused e)
    go _ (bad_field there known q) e = absurd (done_is_not_refused e)
    go _ (good_fields {l = l} there known q) e =
        let kept = keeps (msg_type s) l known in
        let is : message_of l.kind (fields_at s l) ≡ m = cc in
        let r = reached s l.size there in
        let shape : shape_of (type_of m) ≡ Some l = ap (λ (x : Message). shape_of (type_of x)) (sym is) ∙ ap shape_of (kept.type s) ∙ known in
        let fields : fields_of m ≡ fields_at s l = ap fields_of (sym is) ∙ kept.fields s in
        ap (λ (x : Option Layout). fault_under x market m (padded_plain (array_at s l))) shape
        ∙ (λ i. fault_of market l (fields i) (array_again s l (layout_sane (msg_type s) l known) r.there i)) ∙ q

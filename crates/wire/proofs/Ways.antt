-- How a read and a write went: the clause of the rule that it took, with what was tested on the way. What holds of every read or write is proved by these.
use Rattle.std.specs.Prelude.{Option, Some, None}
use mathlib.Core.Path.{◌≡◌, refl, ap, ◌∙◌}
use mathlib.Core.List.{List, ◌++◌}
use mathlib.Core.Bool.{Bool, true, false}
use Prim.Native.Nat.{ℕ, ◌≤◌, ◌<◌}
use lib.ListN.{length, drop}
use lib.Dec.{eqb, ltb}
use borrow.Author.Tests.{eqb-true, eqb-false, ltb-true, ltb-false}
use Rattle.wire.specs.declared.table.Layout.{Layout}
use Rattle.wire.specs.declared.Message.{Message}
use Rattle.markets.specs.declared.Market.{Market}
use Rattle.wire.specs.Outcome.{Outcome, done, refused, only}
use Rattle.wire.specs.Table.{shape_of}
use Rattle.wire.specs.Fields.{fields_at, array_at, array_of, fault_of}
use Rattle.wire.specs.Message.{fields_of, type_of}
use Rattle.wire.specs.Reading.{msg_type, reach_of, Read, no_message, bad_message, good_read, read_by, read_body, read_sized, read_shape, read_typed, read_reached, read_of}
use Rattle.wire.specs.Writing.{Write, leaving, refuse, refuse_field, image_of, write_sized, write_by, write_shape, write_of}

-- ---- reading
pub data HowRead (market : Market) (s : List ℕ) : Read → Type 0 where
  unreached : {n : ℕ} → reach_of s ≡ refused n → HowRead market s (no_message n)
  unknown_type : {size : ℕ} → reach_of s ≡ done size → shape_of (msg_type s) ≡ None → HowRead market s (no_message 3)
  other_size : {size : ℕ} {l : Layout} → reach_of s ≡ done size → shape_of (msg_type s) ≡ Some l → (size ≡ l.size → ⊥) → HowRead market s (no_message 2)
  bad_field : {l : Layout} {n : ℕ} → reach_of s ≡ done l.size → shape_of (msg_type s) ≡ Some l → fault_of market l (fields_at s l) (array_at s l) ≡ Some n → HowRead market s (bad_message n)
  good_fields : {l : Layout} → reach_of s ≡ done l.size → shape_of (msg_type s) ≡ Some l → fault_of market l (fields_at s l) (array_at s l) ≡ None → HowRead market s (good_read s l (fields_at s l))

module _ (market : Market) (s : List ℕ) where
  how_fields : (l : Layout) → reach_of s ≡ done l.size → shape_of (msg_type s) ≡ Some l → (x : Option ℕ) → fault_of market l (fields_at s l) (array_at s l) ≡ x → HowRead market s (read_by x s l)
  unfolding read_by
  how_fields l there known (Some n) e = bad_field there known e
  how_fields l there known None e = good_fields there known e

  how_size : (size : ℕ) (l : Layout) → reach_of s ≡ done size → shape_of (msg_type s) ≡ Some l → (right : Bool) → eqb size l.size ≡ right → HowRead market s (read_sized right market s l)
  unfolding read_sized read_body
  how_size size l there known false e = other_size there known (eqb-false size l.size e)
  how_size size l there known true e = how_fields l (there ∙ ap done (eqb-true size l.size e)) known (fault_of market l (fields_at s l) (array_at s l)) refl

  how_type : (size : ℕ) → reach_of s ≡ done size → (x : Option Layout) → shape_of (msg_type s) ≡ x → HowRead market s (read_shape x market s size)
  unfolding read_shape
  how_type size there None e = unknown_type there e
  how_type size there (Some l) e = how_size size l there e (eqb size l.size) refl

  how_reached : (x : Outcome ℕ) → reach_of s ≡ x → HowRead market s (read_reached x market s)
  unfolding read_reached read_typed
  how_reached (refused n) e = unreached e
  how_reached (done size) e = how_type size e (shape_of (msg_type s)) refl

  pub how_read : HowRead market s (read_of market s)
  unfolding read_of
  how_read = how_reached (reach_of s) refl

-- ---- writing
pub data HowWritten (market : Market) (m : Message) (plain out : List ℕ) : Write → Type 0 where
  unknown_type : shape_of (type_of m) ≡ None → HowWritten market m plain out (refuse 3 out)
  bad_field : {l : Layout} {n : ℕ} → shape_of (type_of m) ≡ Some l → fault_of market l (fields_of m) (array_of l plain) ≡ Some n → HowWritten market m plain out (refuse_field n out)
  no_room : {l : Layout} → shape_of (type_of m) ≡ Some l → fault_of market l (fields_of m) (array_of l plain) ≡ None → length out < l.size → HowWritten market m plain out (refuse 15 out)
  all_written : {l : Layout} → shape_of (type_of m) ≡ Some l → fault_of market l (fields_of m) (array_of l plain) ≡ None → l.size ≤ length out → HowWritten market m plain out (leaving (only (done l.size)) (image_of l (type_of m) (fields_of m) plain ++ drop l.size out))

module _ (market : Market) (m : Message) (plain out : List ℕ) where
  module _ (l : Layout) (known : shape_of (type_of m) ≡ Some l) where
    how_room : fault_of market l (fields_of m) (array_of l plain) ≡ None → (short : Bool) → ltb (length out) l.size ≡ short → HowWritten market m plain out (write_sized short l.size (image_of l (type_of m) (fields_of m) plain) out)
    unfolding write_sized
    how_room good true e = no_room known good (ltb-true (length out) l.size e)
    how_room good false e = all_written known good (ltb-false (length out) l.size e)

    how_field : (x : Option ℕ) → fault_of market l (fields_of m) (array_of l plain) ≡ x → HowWritten market m plain out (write_by x l m plain out)
    unfolding write_by
    how_field (Some n) e = bad_field known e
    how_field None e = how_room e (ltb (length out) l.size) refl

  how_shape : (x : Option Layout) → shape_of (type_of m) ≡ x → HowWritten market m plain out (write_shape x market m plain out)
  unfolding write_shape
  how_shape None e = unknown_type e
  how_shape (Some l) e = how_field l e (fault_of market l (fields_of m) (array_of l plain)) refl

  pub how_written : HowWritten market m plain out (write_of market m plain out)
  unfolding write_of
  how_written = how_shape (shape_of (type_of m)) refl

-- Demand 2's round trips hold since the fields of a message fit the layout of its type, and the bytes of a layout are read where they are written.
use Rattle.std.specs.Prelude.{Option, Some, None}
use mathlib.Core.Path.{◌≡◌, refl, sym, ap, ◌∙◌, subst}
use mathlib.Core.List.{List, ◌++◌}
use Prim.Native.Nat.{ℕ, ◌-◌, ◌≤◌}
use native.Mathlib.Omega.{arith}
use lib.ListN.{length, take, drop}
use Rattle.wire.specs.declared.table.Layout.{Layout}
use Rattle.wire.specs.declared.Message.{Message}
use Rattle.markets.specs.declared.Market.{Market}
use Rattle.wire.specs.Outcome.{done, only}
use Rattle.wire.specs.Bytes.{padded_plain, plain_room}
use Rattle.wire.specs.Table.{shape_of, table}
use Rattle.wire.specs.Fields.{fields_at, array_at, array_of, fault_of, ends_of, values_of}
use Rattle.wire.specs.Message.{message_of, fields_of, type_of}
use Rattle.wire.specs.Reading.{msg_size, msg_type, Read, read_as, good_read, read_of}
use Rattle.wire.specs.Writing.{Write, leaving, image_of, write_of}
use Rattle.wire.specs.RoundTrip.{InRange, Bytes, array_width, same_message, ReadsBack, ReservedZero, WritesBack}
use Rattle.wire.proofs.Numbers.{value_empty}
use Rattle.wire.proofs.ByteArrays.{array_again}
use Rattle.wire.proofs.Layouts.{AllRows, by_rows, at_row, layout_sane}
use Rattle.wire.proofs.Cases.{done_is_not_refused, reached, reach_size, read_reached_lem, read_size, read_good, write_good, write_room}
use Rattle.wire.proofs.Rows.{WithinWidths}
use Rattle.wire.proofs.Images.{image_there, image_array, image_size, image_type, image_fields, image_of_read}
use Rattle.wire.proofs.Ways.{HowRead, unreached, unknown_type, other_size, bad_field, good_fields, how_read, HowWritten, no_room, all_written, how_written}

-- ---- each message and its layout

-- its fields fit the layout of its type, and make the message again
record Suits (m : Message) (l : Layout) : Type 0 where
  pub fit : WithinWidths 0 (ends_of l) (values_of l.size (type_of m) (fields_of m))
  pub again : message_of l.kind (fields_of m) ≡ m

suits : (m : Message) (l : Layout) → shape_of (type_of m) ≡ Some l → InRange (fields_of m) → Suits m l
unfolding shape_of
suits (Message.Add h o p v s) l e w = at_row (Suits (Message.Add h o p v s)) 100 l e (record { fit = omega arith; again = refl })
suits (Message.Modify h o p v t s) l e w = at_row (Suits (Message.Modify h o p v t s)) 101 l e (record { fit = omega arith; again = refl })
suits (Message.Delete h o) l e w = at_row (Suits (Message.Delete h o)) 102 l e (record { fit = omega arith; again = refl })
suits (Message.Execute h o t p v s) l e w = at_row (Suits (Message.Execute h o t p v s)) 103 l e (record { fit = omega arith; again = refl })
suits (Message.Replace h o t p v s) l e w = at_row (Suits (Message.Replace h o t p v s)) 104 l e (record { fit = omega arith; again = refl })
suits (Message.Imbalance h s) l e w = at_row (Suits (Message.Imbalance h s)) 105 l e (record { fit = omega arith; again = refl })
suits (Message.NonDisplayed h t p v s) l e w = at_row (Suits (Message.NonDisplayed h t p v s)) 110 l e (record { fit = omega arith; again = refl })
suits (Message.Cross h c p v s) l e w = at_row (Suits (Message.Cross h c p v s)) 111 l e (record { fit = omega arith; again = refl })
suits (Message.TradeCancel h t) l e w = at_row (Suits (Message.TradeCancel h t)) 112 l e (record { fit = omega arith; again = refl })
suits (Message.CrossCorrection h c v) l e w = at_row (Suits (Message.CrossCorrection h c v)) 113 l e (record { fit = omega arith; again = refl })
suits (Message.Retail h c) l e w = at_row (Suits (Message.Retail h c)) 114 l e (record { fit = omega arith; again = refl })
suits (Message.Clear h s) l e w = at_row (Suits (Message.Clear h s)) 32 l e (record { fit = omega arith; again = refl })
suits (Message.Status h s) l e w = at_row (Suits (Message.Status h s)) 34 l e (record { fit = omega arith; again = refl })

-- what was read of a type is a message of that type with those fields
pub record Keeps (n : ℕ) (l : Layout) : Type 0 where
  pub type : (s : List ℕ) → type_of (message_of l.kind (fields_at s l)) ≡ n
  pub fields : (s : List ℕ) → fields_of (message_of l.kind (fields_at s l)) ≡ fields_at s l

kept_row : AllRows Keeps table
kept_row = (record { type = λ s. refl; fields = λ s. simp value_empty }, (record { type = λ s. refl; fields = λ s. simp value_empty }, (record { type = λ s. refl; fields = λ s. simp value_empty }, (record { type = λ s. refl; fields = λ s. simp value_empty }, (record { type = λ s. refl; fields = λ s. simp value_empty }, (record { type = λ s. refl; fields = λ s. simp value_empty }, (record { type = λ s. refl; fields = λ s. simp value_empty }, (record { type = λ s. refl; fields = λ s. simp value_empty }, (record { type = λ s. refl; fields = λ s. simp value_empty }, (record { type = λ s. refl; fields = λ s. simp value_empty }, (record { type = λ s. refl; fields = λ s. simp value_empty }, (record { type = λ s. refl; fields = λ s. simp value_empty }, (record { type = λ s. refl; fields = λ s. simp value_empty }, tt)))))))))))))

pub keeps : (n : ℕ) (l : Layout) → shape_of n ≡ Some l → Keeps n l
keeps = by_rows Keeps kept_row

-- ---- reading what was written

module _ (market : Market) (m : Message) (plain out : List ℕ) (long : length plain ≡ plain_room) (w : InRange (fields_of m)) where
  module _ (l : Layout) (known : shape_of (type_of m) ≡ Some l) (good : fault_of market l (fields_of m) (array_of l plain) ≡ None) where
    read_image : (rest : List ℕ) → read_of market (image_of l (type_of m) (fields_of m) plain ++ rest) ≡ read_as (only (done m)) (padded_plain (take (l.pad - l.plain) plain))
    read_image rest =
        let f = fields_of m in
        let sane = layout_sane (type_of m) l known in
        let u = suits m l known w in
        let s : List ℕ = image_of l (type_of m) f plain ++ rest in
        let size : msg_size s ≡ l.size = image_size l sane (type_of m) f plain rest long u.fit in
        let type : msg_type s ≡ type_of m = image_type l sane (type_of m) f plain rest long u.fit in
        let fields : fields_at s l ≡ f = image_fields l sane (type_of m) f plain rest long u.fit in
        let there : l.size ≤ length s = image_there l sane (type_of m) f plain rest long in
        read_reached_lem market s (msg_size s) (reach_size s (omega arith) (omega arith) (omega arith))
        ∙ read_size market s (msg_size s) l (ap shape_of type ∙ known) size
        ∙ read_good market s l ((λ i. fault_of market l (fields i) (image_array l sane (type_of m) f plain rest long i)) ∙ good)
        ∙ (λ i. read_as (only (done ((ap (message_of l.kind) fields ∙ u.again) i))) (padded_plain (image_array l sane (type_of m) f plain rest long i)))

  -- of the ways of writing only the last one is done
  pub read_what_was_written : ReadsBack market m plain (write_of market m plain out)
  unfolding ReadsBack
  read_what_was_written n = go (write_of market m plain out) (how_written market m plain out)
    where
      go : (x : Write) → HowWritten market m plain out x → x.outcome ≡ done n → read_of market x.out ≡ same_message m plain
      go _ (unknown_type q) e = absurd (done_is_not_refused e)
      go _ (bad_field known q) e = absurd (done_is_not_refused e)
      go _ (no_room known good short) e = absurd (done_is_not_refused e)
      go _ (all_written {l = l} known good fits) e =
          read_image l known good (drop l.size out) ∙ ap (λ (x : Option Layout). read_as (only (done m)) (padded_plain (take (array_width x) plain))) (sym known)

-- ---- writing what was read

module _ (market : Market) (s : List ℕ) (bytes : Bytes s) (m : Message) (out : List ℕ) where
  abbrev WroteAll : Read → Type 0
  WroteAll r = write_of market m r.plain out ≡ leaving (only (done (msg_size s))) (take (msg_size s) s ++ drop (msg_size s) out)

  module _ (l : Layout) (known : shape_of (msg_type s) ≡ Some l) (size : msg_size s ≡ l.size) (there : msg_size s ≤ length s) (room : msg_size s ≤ length out) where
    wrote_all : fault_of market l (fields_at s l) (array_at s l) ≡ None → message_of l.kind (fields_at s l) ≡ m → ReservedZero (Some l) s → WroteAll (good_read s l (fields_at s l))
    wrote_all good is zero =
        let kept = keeps (msg_type s) l known in
        let type : type_of m ≡ msg_type s = ap type_of (sym is) ∙ kept.type s in
        let fields : fields_of m ≡ fields_at s l = ap fields_of (sym is) ∙ kept.fields s in
        let plain = padded_plain (array_at s l) in
        let sane = layout_sane (msg_type s) l known in
        let image = image_of_read s l bytes sane size (omega arith) zero.0 zero.1 in
        write_good market m plain out l (ap shape_of type ∙ known) ((λ i. fault_of market l (fields i) (array_again s l sane (omega arith) i)) ∙ good)
        ∙ write_room l.size (image_of l (type_of m) (fields_of m) plain) out (omega arith)
        ∙ (λ i. leaving (only (done (sym size i))) (((λ j. image_of l (type j) (fields j) plain) ∙ image) i ++ drop l.size out))
        ∙ (λ i. leaving (only (done (msg_size s))) (take (sym size i) s ++ drop (sym size i) out))

-- of the ways of reading only the last one is done
pub write_what_was_read : (market : Market) (s : List ℕ) → Bytes s → WritesBack market s (read_of market s)
unfolding WritesBack
write_what_was_read market s bytes m = go (read_of market s) (how_read market s)
  where
    go : (r : Read) → HowRead market s r → r.outcome ≡ done m → ReservedZero (shape_of (msg_type s)) s → (out : List ℕ) → msg_size s ≤ length out → WroteAll market s bytes m out r
    go _ (unreached q) e zero out room = absurd (done_is_not_refused e)
    go _ (unknown_type there q) e zero out room = absurd (done_is_not_refused e)
    go _ (other_size there known q) e zero out room = absurd (done_is_not_refused e)
    go _ (bad_field there known q) e zero out room = absurd (done_is_not_refused e)
    go _ (good_fields {l = l} there known q) e zero out room =
        let r = reached s l.size there in
        let is : message_of l.kind (fields_at s l) ≡ m = cc in
        wrote_all market s bytes m out l known r.size (omega (arith, r.size, r.there)) room q is (subst (λ (x : Option Layout). ReservedZero x s) known zero)

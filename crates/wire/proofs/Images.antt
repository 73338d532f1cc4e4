-- The numbers, the byte array and the reserved bytes of a message lie end to end, over any layout, so each is read where it was written, and their slices join to the message.
use mathlib.Core.Path.{◌≡◌, refl, sym, ap, ◌∙◌}
use mathlib.Core.List.{List, [], ◌++◌, append_assoc}
use Prim.Native.Nat.{ℕ, ◌-◌, ◌≤◌}
use native.Mathlib.Omega.{arith}
use lib.ListN.{length, take, get_or, length-append}
use lib.Seq.{slice, length-take-le, length-slice, take_at}
use Rattle.wire.specs.declared.table.Layout.{Layout}
use Rattle.wire.specs.declared.fields.Fields.{Fields}
use Rattle.wire.specs.Bytes.{little_endian, value_at, padded_plain, plain_room, bytes_of, values_at}
use Rattle.wire.specs.Fields.{Sane, fields_at, ends_of, values_of}
use Rattle.wire.specs.Reading.{msg_size, msg_type}
use Rattle.wire.specs.Writing.{image_of}
use Rattle.wire.specs.RoundTrip.{Bytes}
use Rattle.wire.proofs.Numbers.{length_little_endian, little_endian_of_slice}
use Rattle.wire.proofs.Laying.{ends_rise}
use Rattle.wire.proofs.Rows.{WithinWidths, slice_between, values_of_bytes, bytes_of_values, slices_join, length_of_bytes}

-- ---- the bytes of a message with anything behind them
module _ (l : Layout) (sane : Sane l) (type : ℕ) (f : Fields) (plain rest : List ℕ) (long : length plain ≡ plain_room) where
  abbrev numbers : List ℕ
  numbers = bytes_of 0 (ends_of l) (values_of l.size type f)

  abbrev array : List ℕ
  array = take (l.pad - l.plain) plain

  abbrev last : List ℕ
  last = little_endian (l.size - l.pad) 0

  abbrev pub stream : List ℕ
  stream = image_of l type f plain ++ rest

  in_three : stream ≡ numbers ++ array ++ (last ++ rest)
  unfolding image_of
  in_three = append_assoc (numbers ++ array) last rest

  in_two : stream ≡ numbers ++ (array ++ (last ++ rest))
  in_two = in_three ∙ append_assoc numbers array (last ++ rest)

  length_numbers : length numbers ≡ l.plain
  length_numbers = omega (arith, length_of_bytes (ends_of l) (values_of l.size type f) l.size 0 refl (ends_rise l sane l.size (omega arith)))

  length_array : length array ≡ l.pad - l.plain
  length_array = length-take-le (l.pad - l.plain) plain (omega arith)

  pub image_there : l.size ≤ length stream
  image_there =
      omega (
        arith,
        ap length in_three,
        length-append (numbers ++ array) (last ++ rest),
        length-append numbers array,
        length-append last rest,
        length_numbers,
        length_array,
        length_little_endian (l.size - l.pad) 0,
      )

  pub image_long : length (image_of l type f plain) ≡ l.size
  unfolding image_of
  image_long =
      omega (
        arith,
        length-append (numbers ++ array) last,
        length-append numbers array,
        length_numbers,
        length_array,
        length_little_endian (l.size - l.pad) 0,
      )

  pub image_array : slice l.plain l.pad stream ≡ array
  image_array = rw in_three (slice_between numbers array (last ++ rest) l.plain l.pad length_numbers (omega arith) length_array)

  module _ (fit : WithinWidths 0 (ends_of l) (values_of l.size type f)) where
    nth : (i : ℕ) → get_or (values_at 0 (ends_of l) stream) i 0 ≡ get_or (values_of l.size type f) i 0
    nth i =
        ap (λ (v : List ℕ). get_or v i 0)
        (ap (values_at 0 (ends_of l)) in_two
        ∙ values_of_bytes (ends_of l) (values_of l.size type f) l.size 0 [] (array ++ (last ++ rest)) refl refl (ends_rise l sane l.size (omega arith)) fit)

    pub image_size : msg_size stream ≡ l.size
    image_size = nth 0

    pub image_type : msg_type stream ≡ type
    image_type = nth 1

    pub image_fields : fields_at stream l ≡ f
    image_fields = λ i. record {
      seconds = nth 2 i;
      nanos = nth 3 i;
      index = nth 4 i;
      number = nth 5 i;
      order = nth 6 i;
      fresh = nth 7 i;
      id = nth 8 i;
      price = nth 9 i;
      volume = nth 10 i;
      flag = nth 11 i;
      side = nth 12 i;
      letter = nth 13 i;
    }

-- ---- the fields that were read from s, written again
module _ (s : List ℕ) (l : Layout) (bytes : Bytes s) (sane : Sane l) (size : msg_size s ≡ l.size) (there : l.size ≤ length s)
    (gap-zero : value_at s l.gap l.plain ≡ 0) (pad-zero : value_at s l.pad l.size ≡ 0) where
  pub image_of_read : image_of l (msg_type s) (fields_at s l) (padded_plain (slice l.plain l.pad s)) ≡ take l.size s
  unfolding image_of
  image_of_read =
      let same : values_of l.size (msg_type s) (fields_at s l) ≡ values_at 0 (ends_of l) s = rw (← size, ← gap-zero) in
      let b : bytes_of 0 (ends_of l) (values_of l.size (msg_type s) (fields_at s l)) ≡ slice 0 l.plain s =
      ap (bytes_of 0 (ends_of l)) same ∙ bytes_of_values s (ends_of l) 0 bytes (omega arith) (ends_rise l sane (length s) there) in
      let d : take (l.pad - l.plain) (padded_plain (slice l.plain l.pad s)) ≡ slice l.plain l.pad s =
      take_at (slice l.plain l.pad s) _ (l.pad - l.plain) (length-slice l.plain l.pad s (omega arith)) in
      let z : little_endian (l.size - l.pad) 0 ≡ slice l.pad l.size s =
      ap (little_endian (l.size - l.pad)) (sym pad-zero) ∙ little_endian_of_slice s l.pad l.size bytes there in
      (λ i. b i ++ d i ++ z i)
      ∙ ap (λ (x : List ℕ). x ++ slice l.pad l.size s) (slices_join s 0 l.plain l.pad (omega arith) (omega arith) (omega arith))
      ∙ slices_join s 0 l.pad l.size (omega arith) (omega arith) there

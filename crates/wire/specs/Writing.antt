-- Writing a message: document 01, "A written message checks 3, 4, then 15".
use Rattle.std.specs.Prelude.{ℕ, ◌-◌, ◌≤◌, List, ◌++◌, Bool, true, false, ◌≡◌, length, drop, ltb, Option, Some, None, Result, Ok, Err}
use Rattle.wire.specs.Outcome.{Outcome, done, refused, Answered, only, bad_at}
use Rattle.wire.specs.Bytes.{little_endian, bytes_of}
use Rattle.wire.specs.Table.{shape_of}
use Rattle.wire.specs.Fields.{array_of, fault_of, ends_of, values_of}
use Rattle.wire.specs.Message.{fields_of, type_of}
use Rattle.wire.specs.declared.table.Layout.{Layout}
use Rattle.wire.specs.declared.fields.Fields.{Fields}
use Rattle.markets.specs.declared.Market.{Market}
use Rattle.wire.specs.declared.Message.{Message}
use Rattle.wire.specs.declared.WriteError.{WriteError}

-- document 01's number and value of each case, and the offset
abbrev pub wrote_as : Result ℕ WriteError → Answered ℕ
wrote_as (Ok n) = only (done n)
wrote_as (Err WriteError.BadType) = only (refused 3)
wrote_as (Err (WriteError.BadField n)) = bad_at n
wrote_as (Err WriteError.NoRoom) = only (refused 15)

-- how many bytes were written
abbrev pub count_of : Outcome ℕ → ℕ
count_of (done n) = n
count_of (refused k) = 0

-- what a write answers, and what it leaves in the buffer
pub record Write : Type 0 where
  pub outcome : Outcome ℕ
  pub offset : ℕ
  pub out : List ℕ

abbrev pub leaving : Answered ℕ → List ℕ → Write
leaving a out = record { outcome = a.outcome; offset = a.offset; out = out }

abbrev pub wrote : Result ℕ WriteError → List ℕ → Write
wrote w out = leaving (wrote_as w) out

-- a refused write leaves the buffer as it was; with a bad field it says where that stands
abbrev pub refuse : ℕ → List ℕ → Write
refuse n out = leaving (only (refused n)) out

abbrev pub refuse_field : ℕ → List ℕ → Write
refuse_field n out = leaving (bad_at n) out

-- a write that leaves the buffer as long as it was, counts no more bytes than that, and changes none beyond the count
pub record Fills (out : List ℕ) (w : Write) : Type 0 where
  pub long : length w.out ≡ length out
  pub within : count_of w.outcome ≤ length out
  pub beyond : drop (count_of w.outcome) w.out ≡ drop (count_of w.outcome) out

-- the bytes of a message: its numbers, its byte array at the type's own width, and zero in the reserved byte at the end
unfoldable pub image_of : Layout → ℕ → Fields → List ℕ → List ℕ
image_of l type f plain = bytes_of 0 (ends_of l) (values_of l.size type f) ++ array_of l plain ++ little_endian (l.size - l.pad) 0

-- is the buffer shorter than the message?
unfoldable pub write_sized : Bool → ℕ → List ℕ → List ℕ → Write
write_sized true size image out = refuse 15 out
write_sized false size image out = leaving (only (done size)) (image ++ drop size out)

unfoldable pub write_by : Option ℕ → Layout → Message → List ℕ → List ℕ → Write
write_by (Some n) l m plain out = refuse_field n out
write_by None l m plain out = write_sized (ltb (length out) l.size) l.size (image_of l (type_of m) (fields_of m) plain) out

unfoldable pub write_shape : Option Layout → Market → Message → List ℕ → List ℕ → Write
write_shape None market m plain out = refuse 3 out
write_shape (Some l) market m plain out = write_by (fault_of market l (fields_of m) (array_of l plain)) l m plain out

-- the message at the start of out, as a market sends it
unfoldable pub write_of : Market → Message → List ℕ → List ℕ → Write
write_of market m plain out = write_shape (shape_of (type_of m)) market m plain out

-- Demand 2's round trips: messages go to bytes and back, under every market, one and the same on both ways.
use Rattle.std.specs.Prelude.{ℕ, ◌-◌, ◌^◌, ◌≤◌, ◌<◌, List, ◌++◌, ◌≡◌, length, take, drop, get_or, Option, Some, None}
use Rattle.wire.specs.Outcome.{done, only}
use Rattle.wire.specs.Bytes.{value_at, padded_plain}
use Rattle.wire.specs.Table.{shape_of}
use Rattle.wire.specs.Message.{type_of}
use Rattle.wire.specs.Reading.{msg_size, msg_type, Read, read_as, read_of}
use Rattle.wire.specs.Writing.{Write, leaving, write_of}
use Rattle.wire.specs.declared.table.Layout.{Layout}
use Rattle.wire.specs.declared.fields.Fields.{Fields}
use Rattle.wire.specs.declared.Message.{Message}
use Rattle.markets.specs.declared.Market.{Market}

-- What the types of the code say: each field is within its type, and each element of a slice is a byte.
pub record InRange (f : Fields) : Type 0 where
  pub seconds : f.seconds < 2 ^ 32
  pub nanos : f.nanos < 2 ^ 32
  pub index : f.index < 2 ^ 32
  pub number : f.number < 2 ^ 32
  pub order : f.order < 2 ^ 64
  pub fresh : f.fresh < 2 ^ 64
  pub id : f.id < 2 ^ 32
  pub price : f.price < 2 ^ 32
  pub volume : f.volume < 2 ^ 32
  pub flag : f.flag < 2 ^ 8
  pub side : f.side < 2 ^ 8
  pub letter : f.letter < 2 ^ 8

abbrev pub Bytes : List ℕ → Type 0
Bytes s = (i : ℕ) → get_or s i 0 < 256

-- how many bytes of its array belong to a message of this shape
abbrev pub array_width : Option Layout → ℕ
array_width None = 0
array_width (Some l) = l.pad - l.plain

-- the same message: the bytes of its array beyond its type's width are no part of it
abbrev pub same_message : Message → List ℕ → Read
same_message m plain = read_as (only (done m)) (padded_plain (take (array_width (shape_of (type_of m))) plain))

-- Reading what was written gives the same message.
unfoldable pub ReadsBack : Market → Message → List ℕ → Write → Type 0
ReadsBack market m plain w = (n : ℕ) → w.outcome ≡ done n → read_of market w.out ≡ same_message m plain

-- the reserved bytes of a message of this shape are zero
abbrev pub ReservedZero : Option Layout → List ℕ → Type 0
ReservedZero None s = Unit {0}
ReservedZero (Some l) s = (value_at s l.gap l.plain ≡ 0) × (value_at s l.pad l.size ≡ 0)

-- Writing what was read gives the same bytes, where the reserved bytes are zero.
unfoldable pub WritesBack : Market → List ℕ → Read → Type 0
WritesBack market s r = (m : Message) → r.outcome ≡ done m → ReservedZero (shape_of (msg_type s)) s → (out : List ℕ) → msg_size s ≤ length out →
    write_of market m r.plain out ≡ leaving (only (done (msg_size s))) (take (msg_size s) s ++ drop (msg_size s) out)

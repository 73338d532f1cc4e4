-- Reading a message: document 01, "Numbers answered" 0 to 4, in the order of its checks.
use Rattle.std.specs.Prelude.{ℕ, List, Bool, true, false, length, replicate, eqb, ltb, Option, Some, None, Result, Ok, Err}
use Rattle.wire.specs.Outcome.{Outcome, done, refused, Answered, only, bad_at}
use Rattle.wire.specs.Bytes.{value_at, padded_plain, plain_room}
use Rattle.wire.specs.Table.{shape_of}
use Rattle.wire.specs.Fields.{fields_at, array_at, fault_of}
use Rattle.wire.specs.Message.{message_of}
use Rattle.wire.specs.declared.table.Layout.{Layout}
use Rattle.wire.specs.declared.fields.Fields.{Fields}
use Rattle.markets.specs.declared.Market.{Market}
use Rattle.wire.specs.declared.Message.{Message}
use Rattle.wire.specs.declared.ReachError.{ReachError}
use Rattle.wire.specs.declared.ReadError.{ReadError}
use Rattle.wire.specs.declared.Decoded.{Decoded}

-- ---- how far a message reaches

-- document 01's number and value of each case
abbrev pub reached_as : Result ℕ ReachError → Outcome ℕ
reached_as (Ok n) = done n
reached_as (Err ReachError.Short) = refused 1
reached_as (Err ReachError.Small) = refused 2

abbrev pub msg_size : List ℕ → ℕ
msg_size s = value_at s 0 2

abbrev pub msg_type : List ℕ → ℕ
msg_type s = value_at s 2 4

-- Msg Size and Msg Type have four bytes
abbrev pub least_size : ℕ
least_size = 4

-- are there fewer than four bytes, is Msg Size below 4, is it beyond the rest?
unfoldable pub reach_by : Bool → Bool → Bool → ℕ → Outcome ℕ
reach_by true below beyond size = refused 1
reach_by false true beyond size = refused 2
reach_by false false true size = refused 1
reach_by false false false size = done size

-- the Msg Size of the message at the start of s
unfoldable pub reach_of : List ℕ → Outcome ℕ
reach_of s = reach_by (ltb (length s) least_size) (ltb (msg_size s) least_size) (ltb (length s) (msg_size s)) (msg_size s)

-- ---- the message

-- document 01's number and value of each case, and the offset
abbrev pub answered_as : Result Message ReadError → Answered Message
answered_as (Ok m) = only (done m)
answered_as (Err ReadError.Short) = only (refused 1)
answered_as (Err ReadError.BadSize) = only (refused 2)
answered_as (Err ReadError.BadType) = only (refused 3)
answered_as (Err (ReadError.BadField n)) = bad_at n

-- what a read hands back: the outcome and the offset, and the byte array beside them
pub record Read : Type 0 where
  pub outcome : Outcome Message
  pub offset : ℕ
  pub plain : List ℕ

abbrev pub read_as : Answered Message → List ℕ → Read
read_as a plain = record { outcome = a.outcome; offset = a.offset; plain = plain }

-- a message that is not reached is not read
abbrev pub unreached_as : ReachError → ReadError
unreached_as ReachError.Short = ReadError.Short
unreached_as ReachError.Small = ReadError.BadSize

-- with a refusal no message comes, and zeros stand for its byte array
abbrev pub decoded_as : Result Decoded ReadError → Read
decoded_as (Ok d) = read_as (answered_as (Ok d.message)) d.plain
decoded_as (Err e) = read_as (answered_as (Err e)) (replicate plain_room 0)

-- a refused read hands back no message, and zeros; with a bad field it says where that stands
abbrev pub no_message : ℕ → Read
no_message n = read_as (only (refused n)) (replicate plain_room 0)

abbrev pub bad_message : ℕ → Read
bad_message n = read_as (bad_at n) (replicate plain_room 0)

-- the message of these fields, with its byte array
abbrev pub good_read : List ℕ → Layout → Fields → Read
good_read s l f = read_as (only (done (message_of l.kind f))) (padded_plain (array_at s l))

-- the fields
unfoldable pub read_by : Option ℕ → List ℕ → Layout → Read
read_by (Some n) s l = bad_message n
read_by None s l = good_read s l (fields_at s l)

unfoldable pub read_body : Market → List ℕ → Layout → Read
read_body market s l = read_by (fault_of market l (fields_at s l) (array_at s l)) s l

-- the type, then the size: is Msg Size the size of the type?
unfoldable pub read_sized : Bool → Market → List ℕ → Layout → Read
read_sized false market s l = no_message 2
read_sized true market s l = read_body market s l

unfoldable pub read_shape : Option Layout → Market → List ℕ → ℕ → Read
read_shape None market s size = no_message 3
read_shape (Some l) market s size = read_sized (eqb size l.size) market s l

unfoldable pub read_typed : Market → List ℕ → ℕ → Read
read_typed market s size = read_shape (shape_of (msg_type s)) market s size

unfoldable pub read_reached : Outcome ℕ → Market → List ℕ → Read
read_reached (refused n) market s = no_message n
read_reached (done size) market s = read_typed market s size

-- the message at the start of s, as a market sends it
unfoldable pub read_of : Market → List ℕ → Read
read_of market s = read_reached (reach_of s) market s

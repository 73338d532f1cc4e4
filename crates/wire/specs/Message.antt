-- Typed messages: which fields each type has, and its number.
use Rattle.std.specs.Prelude.{ℕ, List, Option, Some, None}
use Rattle.wire.specs.Outcome.{Answered}
use Rattle.wire.specs.Table.{shape_of}
use Rattle.wire.specs.Fields.{array_of, fault_of, fault_as}
use Rattle.wire.specs.declared.table.Kind.{Kind}
use Rattle.wire.specs.declared.table.Layout.{Layout}
use Rattle.wire.specs.declared.fields.Fields.{Fields}
use Rattle.markets.specs.declared.Market.{Market}
use Rattle.wire.specs.declared.Head.{Head}
use Rattle.wire.specs.declared.Message.{Message}
use Rattle.wire.specs.declared.Message.TheVariants.{Add, Modify, Delete, Execute, Replace, Imbalance, NonDisplayed, Cross, TradeCancel, CrossCorrection, Retail, Clear, Status}

abbrev pub head_of : Fields → Head
head_of f = record { nanos = f.nanos; index = f.index; number = f.number }

-- the message of a type with these fields
abbrev pub message_of : Kind → Fields → Message
message_of Kind.Add f = Add (head_of f) f.order f.price f.volume f.side
message_of Kind.Modify f = Modify (head_of f) f.order f.price f.volume f.flag f.side
message_of Kind.Delete f = Delete (head_of f) f.order
message_of Kind.Execute f = Execute (head_of f) f.order f.id f.price f.volume f.flag
message_of Kind.Replace f = Replace (head_of f) f.order f.fresh f.price f.volume f.side
message_of Kind.Imbalance f = Imbalance (head_of f) f.seconds
message_of Kind.NonDisplayed f = NonDisplayed (head_of f) f.id f.price f.volume f.flag
message_of Kind.Cross f = Cross (head_of f) f.id f.price f.volume f.letter
message_of Kind.TradeCancel f = TradeCancel (head_of f) f.id
message_of Kind.CrossCorrection f = CrossCorrection (head_of f) f.id f.volume
message_of Kind.Retail f = Retail (head_of f) f.letter
message_of Kind.Clear f = Clear (head_of f) f.seconds
message_of Kind.Status f = Status (head_of f) f.seconds

abbrev pub fields_with : Head → ℕ → ℕ → ℕ → ℕ → ℕ → ℕ → ℕ → ℕ → ℕ → Fields
fields_with h seconds order fresh id price volume flag side letter = record {
  seconds = seconds;
  nanos = h.nanos;
  index = h.index;
  number = h.number;
  order = order;
  fresh = fresh;
  id = id;
  price = price;
  volume = volume;
  flag = flag;
  side = side;
  letter = letter;
}

-- those that every message has, and 0 for the others
abbrev pub fields_of_head : Head → Fields
fields_of_head h = fields_with h 0 0 0 0 0 0 0 0 0

-- the fields of a message; those that its type lacks are 0
abbrev pub fields_of : Message → Fields
fields_of (Add h order price volume side) = fields_with h 0 order 0 0 price volume 0 side 0
fields_of (Modify h order price volume position side) = fields_with h 0 order 0 0 price volume position side 0
fields_of (Delete h order) = fields_with h 0 order 0 0 0 0 0 0 0
fields_of (Execute h order trade price volume printable) = fields_with h 0 order 0 trade price volume printable 0 0
fields_of (Replace h order new_order price volume side) = fields_with h 0 order new_order 0 price volume 0 side 0
fields_of (Imbalance h seconds) = fields_with h seconds 0 0 0 0 0 0 0 0
fields_of (NonDisplayed h trade price volume printable) = fields_with h 0 0 0 trade price volume printable 0 0
fields_of (Cross h cross price volume class) = fields_with h 0 0 0 cross price volume 0 0 class
fields_of (TradeCancel h trade) = fields_with h 0 0 0 trade 0 0 0 0 0
fields_of (CrossCorrection h cross volume) = fields_with h 0 0 0 cross 0 volume 0 0 0
fields_of (Retail h indicator) = fields_with h 0 0 0 0 0 0 0 0 indicator
fields_of (Clear h seconds) = fields_with h seconds 0 0 0 0 0 0 0 0
fields_of (Status h seconds) = fields_with h seconds 0 0 0 0 0 0 0 0

-- its type number
abbrev pub type_of : Message → ℕ
type_of (Add h order price volume side) = 100
type_of (Modify h order price volume position side) = 101
type_of (Delete h order) = 102
type_of (Execute h order trade price volume printable) = 103
type_of (Replace h order new_order price volume side) = 104
type_of (Imbalance h seconds) = 105
type_of (NonDisplayed h trade price volume printable) = 110
type_of (Cross h cross price volume class) = 111
type_of (TradeCancel h trade) = 112
type_of (CrossCorrection h cross volume) = 113
type_of (Retail h indicator) = 114
type_of (Clear h seconds) = 32
type_of (Status h seconds) = 34

-- its symbol index
abbrev pub index_in : Message → ℕ
index_in m = (fields_of m).index

-- its first bad field, with its array beside it
abbrev pub fault_under : Option Layout → Market → Message → List ℕ → Option ℕ
fault_under None market m plain = None
fault_under (Some l) market m plain = fault_of market l (fields_of m) (array_of l plain)

unfoldable pub fault_in : Market → Message → List ℕ → Option ℕ
fault_in market m plain = fault_under (shape_of (type_of m)) market m plain

-- 0, or 4 with the offset of that field
abbrev pub bad_field_of : Market → Message → List ℕ → Answered (Unit {0})
bad_field_of market m plain = fault_as (fault_in market m plain)

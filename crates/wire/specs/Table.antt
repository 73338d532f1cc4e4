-- Document 01, "Message layouts": the table, nearly as it is printed, and the layout that it gives for a type number.
use Rattle.std.specs.Prelude.{ℕ, ◌+◌, List, [], ◌∷◌, Bool, true, false, cond, ◌&&◌, eqb, leb, T, Option, Some, None}
use Rattle.wire.specs.declared.table.Kind.{Kind}
use Rattle.wire.specs.declared.table.Kind.TheVariants.{Add, Modify, Delete, Execute, Replace, Imbalance, NonDisplayed, Cross, TradeCancel, CrossCorrection, Retail, Clear, Status}
use Rattle.wire.specs.declared.table.Layout.{Layout}

-- The further fields. Every type has those that it has in this order.
pub data FieldName : Type 0 where
  order fresh id price volume flag side letter gap plain pad : FieldName

-- its rank in that order
abbrev pub rank : FieldName → ℕ
rank order = 0
rank fresh = 1
rank id = 2
rank price = 3
rank volume = 4
rank flag = 5
rank side = 6
rank letter = 7
rank gap = 8
rank plain = 9
rank pad = 10

-- the table's own names for them
abbrev pub new_order : FieldName
new_order = fresh

abbrev pub trade : FieldName
trade = id

abbrev pub cross : FieldName
cross = id

abbrev pub position : FieldName
position = flag

abbrev pub printable : FieldName
printable = flag

abbrev pub cross_type : FieldName
cross_type = letter

abbrev pub indicator : FieldName
indicator = letter

abbrev pub firm : FieldName
firm = plain

abbrev pub conditions : FieldName
conditions = plain

abbrev pub reserved : FieldName
reserved = pad

-- a 103 has its reserved byte before its conditions
abbrev pub reserved_before : FieldName
reserved_before = gap

-- An entry of the table, offset and size
pub record Entry : Type 0 where
  pub name : FieldName
  pub at : ℕ
  pub size : ℕ

abbrev pub field : FieldName → ℕ → ℕ → Entry
field f at size = record { name = f; at = at; size = size }

-- the forms, by where the nanoseconds stand
abbrev pub form_n : ℕ
form_n = 4

abbrev pub form_s : ℕ
form_s = 8

-- is volume 0 bad?
abbrev pub positive : Bool
positive = true

abbrev pub any : Bool
any = false

-- does its array hold conditions?
abbrev pub coded : Bool
coded = true

abbrev pub free : Bool
free = false

-- A row: number, kind, whether volume 0 is bad, whether its array holds conditions, size, form, further fields
pub record Row : Type 0 where
  pub number : ℕ
  pub kind : Kind
  pub volumes : Bool
  pub codes : Bool
  pub size : ℕ
  pub form : ℕ
  pub entries : List Entry

abbrev pub row : ℕ → Kind → Bool → Bool → ℕ → ℕ → List Entry → Row
row n k v c size form es = record { number = n; kind = k; volumes = v; codes = c; size = size; form = form; entries = es }

abbrev pub table : List Row
table =
    row 100 Add positive free 39 form_n (field order 16 8 ∷ field price 24 4 ∷ field volume 28 4 ∷ field side 32 1 ∷ field firm 33 5 ∷ field reserved 38 1 ∷ [])
    ∷ row 101 Modify positive free 35 form_n (field order 16 8 ∷ field price 24 4 ∷ field volume 28 4 ∷ field position 32 1 ∷ field side 33 1 ∷ field reserved 34 1 ∷ [])
    ∷ row 102 Delete any free 25 form_n (field order 16 8 ∷ field reserved 24 1 ∷ [])
    ∷ row 103 Execute positive coded 42 form_n (field order 16 8 ∷ field trade 24 4 ∷ field price 28 4 ∷ field volume 32 4 ∷ field printable 36 1 ∷ field reserved_before 37 1 ∷ field conditions 38 4 ∷ [])
    ∷ row 104 Replace positive free 42 form_n (field order 16 8 ∷ field new_order 24 8 ∷ field price 32 4 ∷ field volume 36 4 ∷ field side 40 1 ∷ field reserved 41 1 ∷ [])
    ∷ row 105 Imbalance any free 73 form_s (field plain 20 53 ∷ [])
    ∷ row 110 NonDisplayed positive coded 33 form_n (field trade 16 4 ∷ field price 20 4 ∷ field volume 24 4 ∷ field printable 28 1 ∷ field conditions 29 4 ∷ [])
    ∷ row 111 Cross any free 29 form_n (field cross 16 4 ∷ field price 20 4 ∷ field volume 24 4 ∷ field cross_type 28 1 ∷ [])
    ∷ row 112 TradeCancel any free 20 form_n (field trade 16 4 ∷ [])
    ∷ row 113 CrossCorrection any free 24 form_n (field cross 16 4 ∷ field volume 20 4 ∷ [])
    ∷ row 114 Retail any free 17 form_n (field indicator 16 1 ∷ [])
    ∷ row 32 Clear any free 20 form_s []
    ∷ row 34 Status any free 46 form_s (field plain 20 26 ∷ [])
    ∷ []

-- ---- the test that each row tiles its message: after the form's 12 bytes its fields stand one after the other, in the one order, up to its size

abbrev pub tiles_from : ℕ → ℕ → List Entry → ℕ → Bool
tiles_from p a [] size = eqb a size
tiles_from p a (e ∷ es) size = leb p (rank e.name) && (eqb a e.at && tiles_from (rank e.name + 1) (a + e.size) es size)

abbrev pub all_tile : List Row → Bool
all_tile [] = true
all_tile (r ∷ rs) = tiles_from 0 (r.form + 12) r.entries r.size && all_tile rs

pub table_tiles : T (all_tile table)
table_tiles = tt

-- ---- the layout of a row: where each field starts; one that the row lacks is empty

abbrev pub width : FieldName → List Entry → ℕ
width f [] = 0
width f (e ∷ es) = cond (eqb (rank f) (rank e.name)) e.size (width f es)

abbrev pub start_after : ℕ → List FieldName → List Entry → ℕ
start_after a [] es = a
start_after a (f ∷ fs) es = start_after (a + width f es) fs es

abbrev pub layout_of : Row → Layout
layout_of r =
    let a = r.form + 12 in
    record {
      kind = r.kind;
      positive = r.volumes;
      coded = r.codes;
      size = r.size;
      form = r.form;
      order = a;
      fresh = start_after a (order ∷ []) r.entries;
      id = start_after a (order ∷ fresh ∷ []) r.entries;
      price = start_after a (order ∷ fresh ∷ id ∷ []) r.entries;
      volume = start_after a (order ∷ fresh ∷ id ∷ price ∷ []) r.entries;
      flag = start_after a (order ∷ fresh ∷ id ∷ price ∷ volume ∷ []) r.entries;
      side = start_after a (order ∷ fresh ∷ id ∷ price ∷ volume ∷ flag ∷ []) r.entries;
      letter = start_after a (order ∷ fresh ∷ id ∷ price ∷ volume ∷ flag ∷ side ∷ []) r.entries;
      gap = start_after a (order ∷ fresh ∷ id ∷ price ∷ volume ∷ flag ∷ side ∷ letter ∷ []) r.entries;
      plain = start_after a (order ∷ fresh ∷ id ∷ price ∷ volume ∷ flag ∷ side ∷ letter ∷ gap ∷ []) r.entries;
      pad = start_after a (order ∷ fresh ∷ id ∷ price ∷ volume ∷ flag ∷ side ∷ letter ∷ gap ∷ plain ∷ []) r.entries;
    }

abbrev pub find : ℕ → List Row → Option Layout
find n [] = None
find n (r ∷ rs) = cond (eqb n r.number) (Some (layout_of r)) (find n rs)

-- the layout of a type number, or unknown
unfoldable pub shape_of : ℕ → Option Layout
shape_of n = find n table

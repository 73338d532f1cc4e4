-- Registering a symbol: document 01, "Numbers answered". 13, then 11, then 12.
use Rattle.std.specs.Prelude as told
use Rattle.std.specs.Prelude.{Some, None, Bool, true, false, cond, List, ℕ, ltb, eqb, length, set}
use Rattle.std.proofs.Math.Option.{Option, none, some}
use Rattle.places.specs.Places.{symbols, first_where}
use Rattle.symbols.specs.State.{name_bytes, padded_name, Entry, place_of, vacancy_of}
use Rattle.symbols.specs.declared.registering.Listing.{Listing}

-- a byte that a name can't have, and a name that is empty, too long or has one
abbrev pub byte_bad : ℕ → Bool
byte_bad c = cond (ltb c 0x21) true (cond (ltb 0x7E c) true (eqb c 0x2C))

unfoldable pub name_bad : List ℕ → Bool
name_bad name = cond (eqb (length name) 0) true (cond (ltb name_bytes (length name)) true (ltb (first_where byte_bad name) (length name)))

-- a price scale above 6, or a bad name
abbrev pub most_scale : ℕ
most_scale = 6

abbrev pub bad : List ℕ → ℕ → Bool
bad name scale = cond (ltb most_scale scale) true (name_bad name)

-- what registering starts: number 1 expected, not stale, the mark there
abbrev pub new_entry : ℕ → List ℕ → ℕ → Entry
new_entry index name scale = record { index = index; name = padded_name name; len = length name; scale = scale; standing = record { expected = 1; stale = false; whole = true } }

-- ---- over whatever is kept of a symbol: the next places, and the answer
pub record Next (S : Type 0) : Type 0 where
  pub view : List (Option S)
  pub answer : ℕ

-- one clause for each row
--              bad    known  room
abbrev pub registered_if : {S : Type 0} → Bool → Bool → Bool → List (Option S) → S → Next S
registered_if true known room v s = record { view = v; answer = 13 }
registered_if false true room v s = record { view = v; answer = 11 }
registered_if false false false v s = record { view = v; answer = 12 }
registered_if false false true v s = record { view = set v (vacancy_of v) (some s); answer = 0 }

-- `started` is what a symbol begins with, its entry in it
unfoldable pub registered : {S : Type 0} → (S → Entry) → (Entry → S) → List (Option S) → ℕ → List ℕ → ℕ → Next S
registered entry started v index name scale = registered_if (bad name scale) (ltb (place_of entry index v) symbols) (ltb (vacancy_of v) symbols) v (started (new_entry index name scale))

-- ---- what is told of a registered symbol: its name as it is kept, how long that is, and its scale
abbrev pub listed : Entry → Listing
listed e = record { name = e.name; len = e.len; scale = e.scale }

unfoldable pub told_of : Option Entry → told.Option Listing
told_of none = None
told_of (some e) = Some (listed e)

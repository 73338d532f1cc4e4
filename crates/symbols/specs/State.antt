-- Who is registered, and what is kept of each besides its orders and trades: document 01, "Numbers answered" and "The book".
use Rattle.std.specs.Prelude.{Bool, true, false, cond, List, [], ◌≡◌, ℕ, ◌≤◌, eqb, length, get_or, replicate}
use Rattle.std.proofs.Math.Option.{Option, none, some}
use Rattle.places.specs.Places.{symbols, tabulate, first_where, count}
use Rattle.places.specs.Tickets.{Ticketed}
use Rattle.symbols.specs.declared.Standing.{Standing}
use Rattle.symbols.specs.declared.Place.{Place}
use Rattle.symbols.specs.declared.Symbols.{Symbols}

-- the longest name
abbrev pub name_bytes : ℕ
name_bytes = 11

-- how many numbers a message can carry
abbrev pub numbers : ℕ
numbers = 4294967296

-- ---- what is kept of a symbol: its index, its name with zeros after it, how long that is, the scale of its prices, and where it stands
pub record Entry : Type 0 where
  pub index : ℕ
  pub name : List ℕ
  pub len : ℕ
  pub scale : ℕ
  pub standing : Standing

-- ---- a symbol is looked for by its index, whatever is kept of it beside its entry
module _ {S : Type 0} (entry : S → Entry) where
  abbrev pub has_index : ℕ → Option S → Bool
  has_index index none = false
  has_index index (some s) = eqb (entry s).index index

  unfoldable pub place_of : ℕ → List (Option S) → ℕ
  place_of index v = first_where (has_index index) v

  unfoldable pub found_in : ℕ → List (Option S) → Option S
  found_in index v = get_or v (place_of index v) none

-- the first empty place
abbrev pub is_vacant : {S : Type 0} → Option S → Bool
is_vacant none = true
is_vacant (some s) = false

unfoldable pub vacancy_of : {S : Type 0} → List (Option S) → ℕ
vacancy_of v = first_where is_vacant v

-- ---- what every promise speaks of: the eight places, each empty or with its entry
abbrev pub no_symbol : Place
no_symbol = record { used = false; index = 0; name = replicate name_bytes 0; len = 0; scale = 0; standing = record { expected = 0; stale = false; whole = false } }

-- what stands past the last place
abbrev pub nowhere : Place
nowhere = record { used = false; index = 0; name = []; len = 0; scale = 0; standing = record { expected = 0; stale = false; whole = false } }

abbrev pub place_at : Symbols → ℕ → Place
place_at b k = get_or b.places k nowhere

abbrev pub entry_in : Place → Entry
entry_in p = record { index = p.index; name = p.name; len = p.len; scale = p.scale; standing = p.standing }

abbrev pub entry_seen : Place → Option Entry
entry_seen p = cond p.used (some (entry_in p)) none

unfoldable pub entries : Symbols → List (Option Entry)
entries b = tabulate symbols (λ k. entry_seen (place_at b k))

-- an entry by itself, with nothing beside it
abbrev pub itself : Entry → Entry
itself e = e

-- eleven bytes: the name's, then zeros
unfoldable pub padded_name : List ℕ → List ℕ
padded_name name = tabulate name_bytes (λ i. get_or name i 0)

-- ---- what holds of every state: no index is registered twice, there are eight places, and searches read the symbols' own indices
abbrev pub place_index : Place → ℕ
place_index p = p.index

abbrev pub place_used : Place → Bool
place_used p = p.used

pub record Wf (b : Symbols) : Type 0 where
  pub once : (index : ℕ) → count (has_index itself index) (entries b) ≤ 1
  pub long : length b.places ≡ symbols
  pub ticketed : Ticketed place_index place_used b.places b.tickets

-- ---- the new symbols: nobody is registered
abbrev pub nobody : Symbols
nobody = record { places = replicate symbols no_symbol; tickets = replicate symbols 0 }

-- A change in place of one symbol's trades or crosses: what the functions within this crate promise each other. No rule of document 01 stands here, and nothing here need be believed.
use Rattle.std.specs.Prelude.{Bool, true, false, cond, List, ◌≡◌, ℕ, ◌<◌, ltb, length, set, Result, Ok, Err, ⊤}
use Rattle.std.proofs.Math.Option.{Option, none, some}
use Rattle.places.specs.Places.{insert, remove, look, in_order, Shelf, Lands, placed_in}
use Rattle.places.specs.Tickets.{ticket, Ticketed}
use Rattle.record.specs.State.{trades_each, crosses_each, trade_number, trade_live, cross_number, cross_live}
use Rattle.record.specs.declared.Trade.{Trade}
use Rattle.record.specs.declared.Cross.{Cross}
use Rattle.record.specs.declared.Record.{Record}
use Rattle.record.specs.declared.Lost.{Lost}

module _ {A : Type 0} (key : A → ℕ) where
  -- what is live once one more is kept: none where its number is kept already, or the places are full
  --                 found     room
  abbrev pub one_more : A → List A → Option A → Bool → Option (List A)
  one_more a l (some b) room = none
  one_more a l none false = none
  one_more a l none true = some (insert key a l)

  -- what is live once another, or an empty place, lies where one of a number lay: none where it isn't found
  abbrev pub one_other : Bool → A → ℕ → List A → Option A → Option (List A)
  one_other live a n l none = none
  one_other live a n l (some b) = some (cond live (insert key a (remove key n l)) (remove key n l))

  module _ (live : A → Bool) where
    abbrev pub more : A → List A → Option (List A)
    more a l = one_more a (in_order key live l) (look key (key a) (in_order key live l)) (ltb (length (in_order key live l)) (length l))

    abbrev pub other : A → ℕ → List A → Option (List A)
    other a n l = one_other (live a) a n (in_order key live l) (look key n (in_order key live l))

    -- places with their tickets, no number live twice
    pub record Sound (l : List A) (tickets : List ℕ) : Type 0 where
      pub shelf : Shelf key live (length l) l
      pub ticketed : Ticketed key live l tickets

    -- one place has the element and its ticket, and what is then live is what was to be; or nothing was to be, and nothing is changed
    pub data Stored (l : List A) (tickets : List ℕ) (a : A) (to-be : Option (List A)) : List A → List ℕ → Result ⊤ Lost → Type 0 where
      stored : (i : ℕ) → i < length l → (Sound l tickets → (now-live : List A) × (to-be ≡ some now-live) × Lands key live (length l) l i a now-live)
          → Stored l tickets a to-be (set l i a) (set tickets i (ticket key live a)) (Ok record {})
      left_out : {e : Lost} → (Sound l tickets → to-be ≡ none) → Stored l tickets a to-be l tickets (Err e)

    abbrev pub Keeps : List A → List ℕ → A → List A → List ℕ → Result ⊤ Lost → Type 0
    Keeps l tickets a = Stored l tickets a (more a l)

    abbrev pub Replaces : List A → List ℕ → ℕ → A → List A → List ℕ → Result ⊤ Lost → Type 0
    Replaces l tickets n a = Stored l tickets a (other a n l)

-- stored among all places: at one of the trades, with its ticket, and at one of the crosses, with its stub
abbrev pub stored_at : Record → ℕ → Trade → ℕ → ℕ → Cross → ℕ → Record
stored_at b slot t n corner x m = record {
  places = set b.places slot t;
  tickets = set b.tickets slot n;
  crosses = set b.crosses corner x;
  stubs = set b.stubs corner m;
}

-- ---- stored in place: at the spot of place i the trade t and its ticket, at that of place j the cross x and its stub. Where a place is none, what lay there lies there
pub record AtSpots (b : Record) (k i : ℕ) (t : Trade) (j : ℕ) (x : Cross) (m : Record) : Type 0 where
  pub trade_is : m.places ≡ placed_in trades_each k b.places i t
  pub ticket_is : m.tickets ≡ placed_in trades_each k b.tickets i (ticket trade_number trade_live t)
  pub cross_is : m.crosses ≡ placed_in crosses_each k b.crosses j x
  pub stub_is : m.stubs ≡ placed_in crosses_each k b.stubs j (ticket cross_number cross_live x)

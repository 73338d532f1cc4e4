-- Shelves with their tickets stay so whatever lands, a new list of empty places is so, and a search among the tickets finds what is on the shelf.
use mathlib.Core.Bool.{Bool, true, false}
use mathlib.Core.List.{List}
use mathlib.Core.Path.{◌≡◌, refl, ◌∙◌}
use Prim.Native.Nat.{ℕ, suc, ◌*◌, ◌<◌}
use lib.Dec.{ltb}
use lib.ListN.{length, replicate, length-set, length-replicate}
use Rattle.places.specs.Places.{symbols, shelf, Shelf, FoundAt, FreeAt, placed_in, Lands}
use Rattle.places.specs.Tickets.{first_in, ticket}
use Rattle.places.specs.Shelving.{Shelved, Reshelved}
use Rattle.places.proofs.EightShelves.{shelf_reach, whole_shelf, store_own, store_other, store_singles, new_singles}
use Rattle.places.proofs.Ticketing.{ticketed_placed, ticketed_new, found_first, free_first}

module _ {A : Type 0} (key : A → ℕ) (live : A → Bool) (n : ℕ) where
  placed_long : (k : ℕ) (l : List A) (i : ℕ) (a : A) → length (placed_in n k l i a) ≡ length l
  placed_long k l i a = go (ltb i n) refl
    where
      go : (t : Bool) → ltb i n ≡ t → length (placed_in n k l i a) ≡ length l
      go true e = rw (e, length-set)
      go false e = rw e

  module _ (l : List A) (tickets : List ℕ) (w : Shelved key live n l tickets) where
    pub reshelved : (k i : ℕ) (a : A) (now-live : List A) → Lands key live n (shelf n k l) i a now-live → Reshelved key live n l k now-live (placed_in n k l i a) (placed_in n k tickets i (ticket key live a))
    reshelved k i a now-live p = record {
      shelved = record {
        singles = store_singles key live n l k i a now-live p w.singles;
        long = placed_long k l i a ∙ w.long;
        ticketed = ticketed_placed key live n k l tickets i a w.ticketed;
      };
      own = store_own key live n l k i a now-live p;
      others = store_other key live n l k i a;
    }

    module _ (k : ℕ) (h : k < symbols) where
      pub own_shelf : Shelf key live n (shelf n k l)
      own_shelf = whole_shelf key live n l k w.singles h w.long

      -- d is the empty element
      module _ (d : A) (dead : live d ≡ false) (some : 0 < n) where
        pub finds : (number : ℕ) → FoundAt key live d n number (shelf n k l) (first_in tickets (k * n) n (suc number))
        finds = found_first key live d dead l tickets w.ticketed n k some (shelf_reach n k l w.long h)

        pub finds_free : FreeAt live d n (shelf n k l) (first_in tickets (k * n) n 0)
        finds_free = free_first key live d dead l tickets w.ticketed n k some (shelf_reach n k l w.long h)

  pub new_shelved : (z : A) → live z ≡ false → Shelved key live n (replicate (symbols * n) z) (replicate (symbols * n) 0)
  new_shelved z dead = record {
    singles = new_singles key live n z dead (symbols * n);
    long = length-replicate (symbols * n) z;
    ticketed = ticketed_new key live (symbols * n) z dead;
  }

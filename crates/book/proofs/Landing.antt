-- What the run makes of a message in its turn is a step: orders that are its change, a record that is its deal, and its symbol's number counted.
use Rattle.std.specs.Prelude.{Ok}
use mathlib.Core.Bool.{Bool, false, false≢true}
use mathlib.Core.Path.{◌≡◌, refl}
use Prim.Native.Nat.{ℕ}
use Rattle.places.specs.Places.{among}
use Rattle.symbols.specs.Turns.{counted_if}
use Rattle.symbols.specs.Promises.{Alters}
use Rattle.symbols.specs.declared.Symbols.{Symbols}
use Rattle.orders.specs.Rules.{apply_to}
use Rattle.orders.specs.Promises as changing
use Rattle.orders.specs.declared.Orders.{Orders}
use Rattle.orders.specs.declared.Change.{Change}
use Rattle.record.specs.Promises as dealing
use Rattle.record.specs.declared.Record.{Record}
use Rattle.record.specs.declared.Deal.{Deal}
use Rattle.record.proofs.Storing.{nothing_comes}
use Rattle.book.specs.State.{Next, orders_at, Wf}
use Rattle.book.specs.Promises.{Steps, Awaits, Enacts}
use Rattle.book.specs.declared.Book.{Book}
use Rattle.book.specs.declared.Done.{Done}
use Rattle.book.proofs.Stores.{enacts_done}
use Rattle.book.proofs.Views.{same_market}

-- a message in its turn, which the rule takes to x: it is done by what does its change and its deal
pub record Taken (b : Book) (x : Next) (k : ℕ) (c : Change) (d : Deal) : Type 0 where
  pub awaits : Awaits b k
  pub enacts : (r : Done) → Enacts b k c d r → Steps b x r

module _ (b : Book) (x : Next) (k : ℕ) (c : Change) (d : Deal) (taken : Wf b → Taken b x k c d)
    (o : Orders) (changed : Wf b → changing.Obeys b.orders k (apply_to (orders_at b k) c) o (Ok tt))
    (lost : Bool) (s : Symbols) (counted : Wf b → Alters b.symbols k (counted_if lost) s) where
  abbrev with : Record → Done
  with ts = record { book = record { symbols = s; orders = o; trades = ts; market = b.market }; answer = 0 }

  -- what the deal brings is in the record
  pub stores_step : (ts : Record) → (Wf b → dealing.Obeys b.trades k d (record { trades = ts; lost = lost })) → Steps b x (with ts)
  unfolding among
  stores_step ts dealt = record {
    market = same_market b (with ts).book refl;
    kept = λ u. absurd (false≢true u);
    obeys = λ w.
        let t = taken w in
        (t.enacts (with ts) (enacts_done b k c d o t.awaits.place changed (record { trades = ts; lost = lost }) dealt s counted)).obeys w;
  }

  -- nothing comes to the record
  pub lands_step : d ≡ Deal.Nothing → lost ≡ false → Steps b x (with b.trades)
  lands_step e f = stores_step b.trades (λ w. rw (e, f) (nothing_comes b.trades k w.trades))

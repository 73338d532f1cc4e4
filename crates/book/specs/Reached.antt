-- A state is a new one, or one that a call handed back: document 01, "The book". Never one put together by hand.
use Rattle.std.specs.Prelude.{List, ◌≡◌, ℕ, Option}
use Rattle.markets.specs.declared.Market.{Market}
use Rattle.book.specs.State.{view, Fresh}
use Rattle.book.specs.Registering.{register_of, told_in}
use Rattle.book.specs.Quote.{quote_of, volume_of}
use Rattle.book.specs.Promises.{Steps}
use Rattle.book.specs.Walk.{Moves, Runs}
use Rattle.book.specs.declared.Book.{Book}
use Rattle.book.specs.declared.Done.{Done}
use Rattle.book.specs.declared.walk.Moved.{Moved}
use Rattle.book.specs.declared.walk.Ran.{Ran}
use Rattle.symbols.specs.declared.registering.Listing.{Listing}
use Rattle.book.specs.declared.quote.Quote.{Quote}
use Rattle.book.specs.declared.quote.Volume.{Volume}

pub data Reached : Book → Type 0 where
  new : {b : Book} {m : Market} → Fresh m b → Reached b
  registered : {b : Book} {r : Done} (index : ℕ) (name : List ℕ) (scale : ℕ) → Reached b → Steps b (register_of (view b) index name scale) r → Reached r.book
  applied : {b : Book} {s : List ℕ} {at : ℕ} {r : Moved} → Reached b → Moves b s at r → Reached r.book
  ran : {b : Book} {s : List ℕ} {at : ℕ} {r : Ran} → Reached b → Runs b s at r → Reached r.book

-- two states that answer every call alike: the same answer, the same offset, the same position, the same next view
pub record Alike (a b : Book) : Type 0 where
  pub registering : (index : ℕ) (name : List ℕ) (scale : ℕ) (q r : Done) → Steps a (register_of (view a) index name scale) q → Steps b (register_of (view b) index name scale) r
      → (q.answer ≡ r.answer) × (view q.book ≡ view r.book)
  pub applying : (s : List ℕ) (at : ℕ) (q r : Moved) → Moves a s at q → Moves b s at r
      → (q.answer ≡ r.answer) × (q.offset ≡ r.offset) × (q.at ≡ r.at) × (q.stops ≡ r.stops) × (view q.book ≡ view r.book)
  pub running : (s : List ℕ) (at : ℕ) (q r : Ran) → Runs a s at q → Runs b s at r
      → (q.answer ≡ r.answer) × (q.at ≡ r.at) × (view q.book ≡ view r.book)
  pub telling : (index : ℕ) (q r : Option Listing) → q ≡ told_in index (view a) → r ≡ told_in index (view b) → q ≡ r
  pub quoting : (index : ℕ) (q r : Quote) → q ≡ quote_of index (view a) → r ≡ quote_of index (view b) → q ≡ r
  pub summing : (index : ℕ) (q r : Volume) → q ≡ volume_of index (view a) → r ≡ volume_of index (view b) → q ≡ r
  pub market : (q r : Market) → q ≡ (view a).market → r ≡ (view b).market → q ≡ r

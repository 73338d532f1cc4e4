-- Ten levels a side (document 02, M-106): what is said of every depth that `depth` hands back, and demand 3 of the depth, since ten levels out of a book with a hole would be worse than one.
use Rattle.std.specs.Prelude.{ℕ, Bool, true, false, List, [], ◌∷◌, ◌≡◌, ◌≢◌}
use Rattle.feed.specs.Reader.{clearing}
use Rattle.feed.specs.Feed.{Feed, ◌▷◌, heard}
use Rattle.feed.specs.Book.{book_of}
use Rattle.feed.specs.Demand3.{NoneLost, AfterLoss, UntilClear, Since, NotLost}
use Rattle.places.specs.Places.{among}
use Rattle.orders.specs.Rows.{row_at, as_level, OfRows}
use Rattle.book.specs.State.{Symbol, View, view}
use Rattle.book.specs.Quote.{quote_of, side_of}
use Rattle.book.specs.Depth.{no_depth, depth_if, depth_of, rows_of}
use Rattle.book.specs.declared.Book.{Book}
use Rattle.book.specs.declared.depth.Depth.{Depth}
use Rattle.demands.specs.Reader.{pillar, Effect, Registered}
use Rattle.demands.specs.ByteFeed.{ByteFeed, sent, Moment, feed_of}
use Rattle.demands.specs.Demand3.{Now}

-- the contract of `depth` says that it hands back this
abbrev pub depth_in : Book → ℕ → Depth
depth_in b index = depth_of index (view b)

-- ---- of a symbol s that is not stale: ten rows a side, best first, exact, none left out, the unused ones empty
pub record OfDepth (b : Book) (index : ℕ) (s : Symbol) : Type 0 where
  pub answer : (depth_in b index).answer ≡ 0
  pub rows : (buy : Bool) → OfRows buy s.orders (rows_of buy (depth_in b index))

-- ---- of any view: the first rows are the quote, where both are refused too
pub record FirstRows (v : View) (index : ℕ) : Type 0 where
  pub answer : (depth_of index v).answer ≡ (quote_of index v).answer
  pub level : (buy : Bool) → as_level (row_at (rows_of buy (depth_of index v)) 0) ≡ side_of buy (quote_of index v)

-- ---- its numbers, and what is refused: then no row on either side
pub record DepthAnswers (b : Book) : Type 0 where
  pub numbers : (index : ℕ) → among (depth_in b index).answer (0 ∷ 5 ∷ 8 ∷ []) ≡ true
  pub refused : (index : ℕ) → (depth_in b index).answer ≢ 0 → depth_in b index ≡ no_depth (depth_in b index).answer

-- ---- demand 3: two readers as it takes them, and what the second then shows, at any moment f of the feed
module _ (Takes : Book → List (List ℕ) → Book → Type 0) (b c : Book) where
  pub record Depths (f : ByteFeed) (first second : Book) : Type 0 where
    -- none of the symbol's messages lost: the second reader shows what the first does now,
    pub nothing_lost : (index : ℕ) → NoneLost index (feed_of (view b).market f) → depth_in second index ≡ depth_in first index
    -- which is the depth of the book that document 01's rules make of the messages,
    pub shows_the_book : (index : ℕ) → Registered index (view b) → NoneLost index (feed_of (view b).market f) → depth_in second index ≡ depth_if false (book_of pillar index (feed_of (view b).market f))
    -- as it is for the first at every moment
    pub first_shows_the_book : (index : ℕ) → Registered index (view b) → depth_in first index ≡ depth_if false (book_of pillar index (feed_of (view b).market f))
    -- after a loss: what the first showed at h, the moment before the first lost message
    pub after_a_loss : (index : ℕ) {h : ByteFeed} {before : Book} → Moment h f → Takes b (sent h) before → AfterLoss index (feed_of (view b).market h) (feed_of (view b).market f) → depth_in second index ≡ depth_in before index
    -- once it hears a numbered message of the symbol after that, it refuses, until a clear
    pub refused_until_a_clear : (index : ℕ) → UntilClear index (feed_of (view b).market f) → depth_in second index ≡ no_depth 8
    -- from that clear on, whatever was lost before it, until another loss: what the first shows
    pub from_that_clear_on : (index : ℕ) {next : ℕ} {h : Feed Effect} → Since (NotLost index) (h ▷ heard (clearing index next)) (feed_of (view b).market f) → depth_in second index ≡ depth_in first index

  abbrev pub Demand3OfDepth : Type 0
  Demand3OfDepth = (f : ByteFeed) (first second : Book) → Now Takes b c f first second → Depths f first second

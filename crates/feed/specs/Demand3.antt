-- Demand 3, the statement: first how a symbol stands at a moment of the feed, in the words of document 00, then what the second reader quotes of it.
use Rattle.std.specs.Prelude.{ℕ, ◌≢◌, ◌≡◌}
use Rattle.feed.specs.Reader.{Act, clearing, numbered, index_of, Rules, refused, shown, Reader, Registered, quote}
use Rattle.feed.specs.Feed.{Item, heard, lost, Feed, start, ◌▷◌, Phase, agrees, behind, refuses, phase, first, second, Given}
use Rattle.feed.specs.Book.{book_of}

-- f is the moment g and then messages of which each is a P
pub data Since {E : Type 0} (P : Item E → Type 0) (g : Feed E) : Feed E → Type 0 where
  here : Since P g g
  more : {f : Feed E} {it : Item E} → Since P g f → P it → Since P g (f ▷ it)

module _ {E : Type 0} (i : ℕ) where
  -- where counting begins: at the start, or at a clear of the symbol
  pub data CountsFrom : Feed E → Type 0 where
    at_start : CountsFrom start
    at_clear : {f : Feed E} {next : ℕ} → CountsFrom (f ▷ heard (clearing i next))

  -- nothing of the symbol is lost here; other symbols' losses do not matter
  unfoldable pub NotLost : Item E → Type 0
  NotLost (heard m) = Unit {0}
  NotLost (lost m) = i ≢ index_of m

  -- nothing of the symbol is heard here
  unfoldable pub NotHeard : Item E → Type 0
  NotHeard (heard m) = i ≢ index_of m
  NotHeard (lost m) = Unit {0}

  -- no clear of the symbol is heard here
  unfoldable pub NotCleared : Item E → Type 0
  NotCleared (heard (clearing index next)) = i ≢ index
  NotCleared (heard (numbered index number effect)) = Unit {0}
  NotCleared (lost m) = Unit {0}

  -- Counted from a clear of the symbol or the start, none of its messages is lost. Any clear may be taken, so also the last one.
  pub record NoneLost (f : Feed E) : Type 0 where
    pub from : Feed E
    pub counts : CountsFrom from
    pub since : Since NotLost from f

  -- After a loss: h is the moment just before the first lost message, and nothing of the symbol was heard since
  pub record AfterLoss (h f : Feed E) : Type 0 where
    pub none_before : NoneLost h
    pub message : Act E
    pub own : i ≡ index_of message
    pub since : Since NotHeard (h ▷ lost message) f

  -- From its next numbered message on, until a clear
  pub record UntilClear (f : Feed E) : Type 0 where
    pub before_loss : Feed E
    pub before_next : Feed E
    pub loss : AfterLoss before_loss before_next
    pub number : ℕ
    pub effect : E
    pub since : Since NotCleared (before_next ▷ heard (numbered i number effect)) f

  -- At every moment a symbol stands in one of these (`every-moment`) and no other (`stands-only`): in the one that belongs to its phase
  pub data Stands (f : Feed E) : Phase E → Type 0 where
    none_lost : NoneLost f → Stands f agrees
    after_loss : {h : Feed E} → AfterLoss h f → Stands f (behind h)
    until_clear : UntilClear f → Stands f refuses

-- What the second reader answers to a message that it hears, of a symbol in that phase: 0 while it agrees, 7 to the first numbered one after a loss, then 8
unfoldable pub answered : {E : Type 0} → Phase E → Act E → ℕ
answered p (clearing index next) = 0
answered agrees (numbered index number effect) = 0
answered (behind g) (numbered index number effect) = 7
answered refuses (numbered index number effect) = 8

-- Of a reader D under the rules R: the first reader begins in s₀, the second in t₀
module _ (R : Rules) (D : Reader R) (s₀ t₀ : D.State) where
  -- the second reader's quote of the symbol at the moment f is the first's of the moment g
  abbrev pub QuotesAs : ℕ → (f g : Feed R.Effect) → Type 0
  QuotesAs i f g = quote R D (second R D t₀ f) i ≡ quote R D (first R D s₀ g) i

  abbrev pub Refuses : ℕ → Feed R.Effect → Type 0
  Refuses i f = quote R D (second R D t₀ f) i ≡ refused 8

  unfoldable pub Quotes : ℕ → Feed R.Effect → Phase R.Effect → Type 0
  Quotes i f agrees = QuotesAs i f f
  Quotes i f (behind g) = QuotesAs i f g
  Quotes i f refuses = Refuses i f

  -- DEMAND 3, clause by clause. A feed up to any moment is a feed, so f is any moment.
  pub record Demand3 : Type 0 where
    -- none of the symbol's messages lost: the quote is the first reader's of now
    pub nothing_lost : (i : ℕ) {f : Feed R.Effect} → Given R D s₀ t₀ f → NoneLost i f → QuotesAs i f f
    -- and it is that of demand 2's book, so that a reader that refuses all, one that calls every symbol stale and two idle ones that agree do not pass (proofs/Idle)
    pub quotes_the_book : (i : ℕ) {f : Feed R.Effect} → Given R D s₀ t₀ f → Registered R D s₀ i → NoneLost i f → quote R D (second R D t₀ f) i ≡ shown (R.shows (book_of R i f))
    -- as the first reader's is at every moment
    pub first_quotes_the_book : (i : ℕ) {f : Feed R.Effect} → Given R D s₀ t₀ f → Registered R D s₀ i → quote R D (first R D s₀ f) i ≡ shown (R.shows (book_of R i f))
    -- after a loss: the quote is the first reader's of the moment just before the first lost message
    pub after_a_loss : (i : ℕ) {h f : Feed R.Effect} → Given R D s₀ t₀ f → AfterLoss i h f → QuotesAs i f h
    -- once a numbered message of the symbol is heard after that, and while no clear is: every quote is refused
    pub refused_until_a_clear : (i : ℕ) {f : Feed R.Effect} → Given R D s₀ t₀ f → UntilClear i f → Refuses i f
    -- after a clear, whatever was lost before it, and until another loss: the quote is the first reader's again
    pub from_that_clear_on : (i : ℕ) {next : ℕ} {h f : Feed R.Effect} → Given R D s₀ t₀ f → Since (NotLost i) (h ▷ heard (clearing i next)) f → QuotesAs i f f
    -- all of it by the phase, which can be computed; and the answer to each message that the second reader hears
    pub by_phase : (i : ℕ) {f : Feed R.Effect} → Given R D s₀ t₀ f → Quotes i f (phase i f)
    pub answers : {f : Feed R.Effect} {m : Act R.Effect} → Given R D s₀ t₀ (f ▷ heard m) → D.answer (second R D t₀ f) m ≡ answered (phase (index_of m) f) m

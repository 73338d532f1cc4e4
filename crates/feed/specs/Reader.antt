-- A reader of a feed, as demand 3 knows it: what it keeps of a symbol, and what a message does to that. What a message does to the orders is a parameter, `Rules`.
use Rattle.std.specs.Prelude.{ℕ, ◌+◌, Bool, true, false, cond, ◌≢◌, ◌≡◌, ltb}
use Rattle.std.proofs.Math.Option.{Option, none, some, IsSome}

-- What an in-sequence message comes to: the orders after it, or it doesn't fit (9), or there is no room (10)
pub data Fit (O : Type 0) : Type 0 where
  fits : O → Fit O
  misfit : Fit O
  no_room : Fit O

-- A message as the book meets it: a symbol clear with the next number, or a numbered one with its effect
pub data Act (E : Type 0) : Type 0 where
  clearing : (index next : ℕ) → Act E
  numbered : (index number : ℕ) → E → Act E

-- the symbol that it is for
abbrev pub index_of : {E : Type 0} → Act E → ℕ
index_of (clearing index next) = index
index_of (numbered index number effect) = index

-- What the orders of a symbol are, what an effect does to them, and what a quote shows of them
pub record Rules : Type 1 where
  pub Orders : Type 0
  pub Effect : Type 0
  pub Shown : Type 0
  pub empty : Orders
  pub apply : Orders → Effect → Fit Orders
  pub shows : Orders → Shown

-- What is kept of a registered symbol: the number in turn, whether it is refused until a clear, its live orders
pub record Kept (O : Type 0) : Type 0 where
  pub expected : ℕ
  pub stale : Bool
  pub orders : O

-- What document 01 rules of a numbered message: refused with this number and nothing changes, refused and the symbol becomes stale, or applied, with these orders after it
pub data Ruling (O : Type 0) : Type 0 where
  unchanged : (answer : ℕ) → Ruling O
  made_stale : (answer : ℕ) → Ruling O
  applied : O → Ruling O

-- By its tests in the order in which document 01 checks them: is the symbol stale, is the number below the expected one, is it above, does the message fit. One
-- clause for each row of "Numbers answered".
unfoldable pub ruled : {O : Type 0} → (stale below above : Bool) → Fit O → Ruling O
ruled true below above fit = unchanged 8
ruled false true above fit = unchanged 6
ruled false false true fit = made_stale 7
ruled false false false misfit = made_stale 9
ruled false false false no_room = made_stale 10
ruled false false false (fits orders) = applied orders

-- What a message comes to: document 01's number, and what is kept after it
pub record Reply (O : Type 0) : Type 0 where
  pub answer : ℕ
  pub after : Kept O

module _ {O : Type 0} where
  -- not stale, expecting this number, with these orders
  abbrev pub expecting : ℕ → O → Kept O
  expecting number orders = record { expected = number; stale = false; orders = orders }

  -- A ruling carried out. A refusal changes no order and no expected number; an applied message raises the expected number by one
  unfoldable pub replied : Kept O → Ruling O → Reply O
  replied k (unchanged answer) = record { answer = answer; after = k }
  replied k (made_stale answer) = record { answer = answer; after = record { expected = k.expected; stale = true; orders = k.orders } }
  replied k (applied orders) = record { answer = 0; after = record { expected = k.expected + 1; stale = k.stale; orders = orders } }

-- A quote: refused with its number, or what is shown
pub data Showing (Q : Type 0) : Type 0 where
  refused : ℕ → Showing Q
  shown : Q → Showing Q

module _ (R : Rules) where
  -- A registered symbol meets a message of its own. A clear is never refused: it leaves no orders, makes the symbol not stale, and gives the number in turn.
  unfoldable pub meets : Kept R.Orders → Act R.Effect → Reply R.Orders
  meets k (clearing index next) = record { answer = 0; after = expecting next R.empty }
  meets k (numbered index number effect) = replied k (ruled k.stale (ltb number k.expected) (ltb k.expected number) (R.apply k.orders effect))

  -- the same where the symbol may not be registered: then the answer is 5, and nothing is kept
  unfoldable pub answer_of : Option (Kept R.Orders) → Act R.Effect → ℕ
  answer_of none m = 5
  answer_of (some k) m = (meets k m).answer

  unfoldable pub after_of : Option (Kept R.Orders) → Act R.Effect → Option (Kept R.Orders)
  after_of none m = none
  after_of (some k) m = some (meets k m).after

  -- A quote checks 5, then 8
  unfoldable pub showing_of : Option (Kept R.Orders) → Showing R.Shown
  showing_of none = refused 5
  showing_of (some k) = cond k.stale (refused 8) (shown (R.shows k.orders))

  -- What a new reader keeps of a symbol: registering starts it with no orders, not stale, expecting number 1
  pub data New : Option (Kept R.Orders) → Type 0 where
    unregistered : New none
    registered : New (some (expecting 1 R.empty))

  -- A reader: a state and a step, of which three laws are asked. The answer is that of the message's own symbol, what is kept of that symbol is what it comes to,
  -- and what is kept of any other symbol stays as it was.
  pub record Reader : Type 1 where
    pub State : Type 0
    pub kept : State → ℕ → Option (Kept R.Orders)
    pub answer : State → Act R.Effect → ℕ
    pub step : State → Act R.Effect → State
    pub says : (s : State) (m : Act R.Effect) → answer s m ≡ answer_of (kept s (index_of m)) m
    pub own : (s : State) (m : Act R.Effect) → kept (step s m) (index_of m) ≡ after_of (kept s (index_of m)) m
    pub other : (s : State) (m : Act R.Effect) (i : ℕ) → i ≢ index_of m → kept (step s m) i ≡ kept s i

  abbrev pub Registered : (D : Reader) → D.State → ℕ → Type 0
  Registered D s i = IsSome (D.kept s i)

  -- what a reader quotes of a symbol
  abbrev pub quote : (D : Reader) → D.State → ℕ → Showing R.Shown
  quote D s i = showing_of (D.kept s i)

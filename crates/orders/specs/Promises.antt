-- What the calls that change orders promise.
use Rattle.std.specs.Prelude.{List, [], ◌≢◌, ◌≡◌, ℕ, ◌<◌, ◌≤◌, Result, Ok, Err}
use Rattle.feed.specs.Reader.{Fit, fits, misfit, no_room}
use Rattle.feed.specs.Book.{fitted}
use Rattle.places.specs.Places.{symbols}
use Rattle.orders.specs.State.{live_at, Wf}
use Rattle.orders.specs.Rules.{apply_to}
use Rattle.orders.specs.declared.Order.{Order}
use Rattle.orders.specs.declared.Orders.{Orders}
use Rattle.orders.specs.declared.Change.{Change}
use Rattle.orders.specs.declared.Unfit.{Unfit}

-- document 01's number of each case
abbrev pub unfit_number : Unfit → ℕ
unfit_number Unfit.Misfit = 9
unfit_number Unfit.NoRoom = 10

abbrev pub fit_number : {A : Type 0} → Result A Unfit → ℕ
fit_number (Ok x) = 0
fit_number (Err e) = unfit_number e

-- the code's word for what the rule says
abbrev pub fit_of : Fit (List Order) → Result (Unit {0}) Unfit
fit_of (fits os) = Ok tt
fit_of misfit = Err Unfit.Misfit
fit_of no_room = Err Unfit.NoRoom

-- the symbol at place k has the orders that the rule says, and every other symbol those that it had
pub record Obeys (b : Orders) (k : ℕ) (x : Fit (List Order)) (a : Orders) (r : Result (Unit {0}) Unfit) : Type 0 where
  pub wf : Wf a
  pub fit : r ≡ fit_of x
  pub own : live_at a k ≡ fitted (live_at b k) x
  pub others : (m : ℕ) → m ≢ k → live_at a m ≡ live_at b m

-- what doesn't fit leaves the same orders, whatever they were
pub record Changes (b : Orders) (k : ℕ) (c : Change) (a : Orders) (r : Result (Unit {0}) Unfit) : Type 0 where
  pub kept : fit_number r ≢ 0 → a ≡ b
  pub outside : symbols ≤ k → (a ≡ b) × (r ≡ Err Unfit.Misfit)
  pub obeys : k < symbols → Wf b → Obeys b k (apply_to (live_at b k) c) a r

pub record Clears (b : Orders) (k : ℕ) (r : Orders) : Type 0 where
  pub outside : symbols ≤ k → r ≡ b
  pub own : k < symbols → live_at r k ≡ []
  pub others : (m : ℕ) → m ≢ k → live_at r m ≡ live_at b m
  pub wf : Wf b → Wf r

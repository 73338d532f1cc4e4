-- What a call that changes the record promises.
use Rattle.std.specs.Prelude.{Bool, true, ◌≢◌, ◌≡◌, ℕ, ◌<◌, ◌≤◌}
use Rattle.places.specs.Places.{symbols}
use Rattle.record.specs.State.{kept_at, Wf}
use Rattle.record.specs.Rules.{kept_after, lost_by}
use Rattle.record.specs.declared.Record.{Record}
use Rattle.record.specs.declared.Deal.{Deal}

-- the record that a deal leaves, and whether the symbol's mark goes
pub record Dealt : Type 0 where
  pub trades : Record
  pub lost : Bool

-- of the symbol at place k is kept what the rules say, and of every other symbol what was
pub record Obeys (b : Record) (k : ℕ) (d : Deal) (r : Dealt) : Type 0 where
  pub wf : Wf r.trades
  pub own : kept_at r.trades k ≡ kept_after (kept_at b k) d
  pub lost : r.lost ≡ lost_by (kept_at b k) d
  pub others : (m : ℕ) → m ≢ k → kept_at r.trades m ≡ kept_at b m

-- where the mark goes the record stays as it was, whatever it was
pub record Deals (b : Record) (k : ℕ) (d : Deal) (r : Dealt) : Type 0 where
  pub kept : r.lost ≡ true → r.trades ≡ b
  pub outside : symbols ≤ k → r ≡ record { trades = b; lost = true }
  pub obeys : k < symbols → Wf b → Obeys b k d r

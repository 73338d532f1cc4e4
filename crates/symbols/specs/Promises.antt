-- What the calls promise, over the entries of the eight places.
use Rattle.std.specs.Prelude.{Result, List, ◌≡◌, ℕ, ◌≤◌, get_or, set}
use Rattle.std.specs.Result.{result_unwrap_or}
use Rattle.std.proofs.Math.Option.{Option, none, map}
use Rattle.places.specs.Places.{symbols}
use Rattle.symbols.specs.State.{Entry, entries, itself, Wf}
use Rattle.symbols.specs.Answers.{answered, register_number}
use Rattle.symbols.specs.Registering.{registered}
use Rattle.symbols.specs.Turns.{standing_at}
use Rattle.symbols.specs.declared.Standing.{Standing}
use Rattle.symbols.specs.declared.Symbols.{Symbols}
use Rattle.symbols.specs.declared.registering.RegisterError.{RegisterError}

-- the symbols after registering: refused, they are those that came in
abbrev pub after : Symbols → Result Symbols RegisterError → Symbols
after b r = result_unwrap_or r b

pub record Registers (b : Symbols) (index : ℕ) (name : List ℕ) (scale : ℕ) (r : Result Symbols RegisterError) : Type 0 where
  pub next : entries (after b r) ≡ (registered itself itself (entries b) index name scale).view
  pub answer : answered register_number r ≡ (registered itself itself (entries b) index name scale).answer
  pub wf : Wf b → Wf (after b r)

-- ---- the entry at place k stands otherwise, and all others stay
abbrev pub standing_by : (Standing → Standing) → Entry → Entry
standing_by f e = standing_at (f e.standing) e

unfoldable pub altered : ℕ → (Standing → Standing) → List (Option Entry) → List (Option Entry)
altered k f es = set es k (map (standing_by f) (get_or es k none))

pub record Alters (b : Symbols) (k : ℕ) (f : Standing → Standing) (r : Symbols) : Type 0 where
  pub outside : symbols ≤ k → r ≡ b
  pub next : entries r ≡ altered k f (entries b)
  pub wf : Wf b → Wf r

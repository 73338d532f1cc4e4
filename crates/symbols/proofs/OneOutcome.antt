-- The promises leave one outcome: of two results that meet a promise on the same symbols the answers are equal, and so are the entries.
use mathlib.Core.List.{List}
use mathlib.Core.Path.{◌≡◌, sym, ◌∙◌}
use Prim.Native.Nat.{ℕ}
use Rattle.std.specs.Prelude.{Result}
use Rattle.symbols.specs.State.{entries}
use Rattle.symbols.specs.Answers.{answered, register_number}
use Rattle.symbols.specs.Promises.{after, Registers, Alters}
use Rattle.symbols.specs.declared.Standing.{Standing}
use Rattle.symbols.specs.declared.Symbols.{Symbols}
use Rattle.symbols.specs.declared.registering.RegisterError.{RegisterError}

module _ {b : Symbols} where
  pub one_entered : {index scale : ℕ} {name : List ℕ} {q r : Result Symbols RegisterError} → Registers b index name scale q → Registers b index name scale r → (answered register_number q ≡ answered register_number r) × (entries (after b q) ≡ entries (after b r))
  one_entered p s = (p.answer ∙ sym s.answer, p.next ∙ sym s.next)

  pub one_altered : {k : ℕ} {f : Standing → Standing} {q r : Symbols} → Alters b k f q → Alters b k f r → entries q ≡ entries r
  one_altered p s = p.next ∙ sym s.next

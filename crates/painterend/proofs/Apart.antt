-- What comes after a turn is one thing.
use mathlib.Core.Path.{◌≡◌}
use Rattle.painterend.specs.declared.turns.Progress.{Progress}

module _ {p : Progress} where
  pub reading_done : p ≡ Progress.Reading → p ≡ Progress.Done → ⊥
  reading_done a b = cc

  pub reading_failed : p ≡ Progress.Reading → p ≡ Progress.Failed → ⊥
  reading_failed a b = cc

  pub done_failed : p ≡ Progress.Done → p ≡ Progress.Failed → ⊥
  done_failed a b = cc

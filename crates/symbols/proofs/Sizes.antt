-- How long the array of places is: owning it tells.
use mathlib.Core.Path.{◌≡◌}
use mathlib.Core.List.{List}
use lib.ListN.{length}
use mir.Val.{Val}
use denote.Laws.{Is}
use denote.Struct.Declared.{row}
use Rattle.places.specs.Places.{symbols}
use Rattle.symbols.specs.declared.Symbols.{Symbols}
use Rattle.symbols.specs.contracts.Symbols.{the_type}

module _ (b : Symbols) (vs : List Val) (g : Is (row the_type) b vs) where
  pub places_size : length b.places ≡ symbols
  places_size = g.1.1.0.1.0.1

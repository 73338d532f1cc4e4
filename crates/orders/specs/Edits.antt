-- The change that a flat one is.
use Rattle.std.specs.Prelude.{Bool, ℕ}
use Rattle.orders.specs.declared.Change.{Change}
use Rattle.orders.specs.declared.edits.Kind.{Kind}
use Rattle.orders.specs.declared.edits.Edit.{Edit}

abbrev pub change_by : Kind → ℕ → ℕ → Bool → ℕ → ℕ → Change
change_by Kind.Nothing n fresh buy p v = Change.Nothing
change_by Kind.Add n fresh buy p v = Change.Add n buy p v
change_by Kind.Modify n fresh buy p v = Change.Modify n buy p v
change_by Kind.Delete n fresh buy p v = Change.Delete n
change_by Kind.Execute n fresh buy p v = Change.Execute n v
change_by Kind.Replace n fresh buy p v = Change.Replace n fresh buy p v

abbrev pub change_as : Edit → Change
change_as e = change_by e.kind e.order e.fresh e.buy e.price e.volume

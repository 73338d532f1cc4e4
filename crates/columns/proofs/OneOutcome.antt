-- A promise leaves one text: two results that meet it on the same line hold the same, or begin alike.
use mathlib.Core.Path.{◌≡◌, sym, ◌∙◌}
use mathlib.Core.List.{List}
use Prim.Native.Nat.{ℕ}
use lib.ListN.{length, take}
use Rattle.columns.specs.Held.{Shows, Adds}

pub one_added : {l q r x : List ℕ} → Adds l x q → Adds l x r → q ≡ r
one_added a b = a.adds ∙ sym b.adds

pub one_shown : {l q r : List ℕ} → Shows l q → Shows l r → take (length l) q ≡ take (length l) r
one_shown a b = a.shows ∙ sym b.shows

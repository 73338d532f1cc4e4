-- The first place with the index is the place among the entries.
use borrow.Author.Tests.{tests}
use mathlib.Core.Bool.{true, false}
use mathlib.Core.Path.{◌≡◌}
use Rattle.std.proofs.Common.{rules}
use Rattle.std.proofs.lemmas.Iterator.{IsFirst-from_position, YieldsList-from_slice}
use Rattle.symbols.proofs.Entries.{named, named_place}
use Rattle.symbols.proofs.Symbols.place_of.Goals as goal

pub returns : goal.returns
returns c = named_place c.args.self.now (search rules) c.args.index _
    (IsFirst-from_position _ _ _ (λ y. (named c.args.index) y ≡ true) (λ y. (named c.args.index) y ≡ false) c.position.ensures.ran (YieldsList-from_slice c.args.self.now.places cc) (λ x q k. search (rules, tests)) (λ x q k. search (rules, tests)))

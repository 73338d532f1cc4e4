-- The first place that is not used is the vacancy among the entries.
use borrow.Author.Tests.{tests}
use mathlib.Core.Bool.{true, false}
use mathlib.Core.Path.{◌≡◌}
use Rattle.std.proofs.Common.{rules}
use Rattle.std.proofs.lemmas.Iterator.{IsFirst-from_position, YieldsList-from_slice}
use Rattle.symbols.proofs.Entries.{unused, vacant_place}
use Rattle.symbols.proofs.Symbols.vacancy.Goals as goal

pub returns : goal.returns
returns c = vacant_place c.args.self.now (search rules) _
    (IsFirst-from_position _ _ _ (λ y. unused y ≡ true) (λ y. unused y ≡ false) c.position.ensures.ran (YieldsList-from_slice c.args.self.now.places cc) (λ x q k. search (rules, tests)) (λ x q k. search (rules, tests)))

-- The tests are those of the definition, in its order.
use borrow.Author.Tests.{tests}
use mathlib.Core.Bool.{true, false}
use mathlib.Core.Path.{◌≡◌}
use Rattle.std.proofs.Common.{rules}
use Rattle.std.proofs.lemmas.Iterator.{cases_from_any, YieldsList-from_slice}
use Rattle.symbols.specs.Registering.{byte_bad}
use Rattle.symbols.proofs.Naming.{bad_by_length, bad_by_bytes}
use Rattle.symbols.proofs.names.name_bad.Goals as goal

pub returns-then-is_empty : goal.returns-then-is_empty
returns-then-is_empty c = bad_by_length c.args.name.now _ c.is_empty.ensures c.then-is_empty.either

pub returns : goal.returns
returns c = bad_by_bytes c.args.name.now _ c.is_empty.ensures c.if-is_empty.false c.if-name-gt-NAME.false _
    (cases_from_any _ _ _ (λ b. byte_bad b ≡ true) (λ b. byte_bad b ≡ false) c.any.ensures.ran (YieldsList-from_slice c.args.name.now cc) (λ x q k. search (rules, tests)) (λ x q k. search (rules, tests)))

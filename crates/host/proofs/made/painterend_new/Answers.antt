-- A number names a market where converting it gives one.
use mathlib.Core.Path.{◌≡◌, refl, ap, ◌∙◌}
use Rattle.std.specs.Prelude.{Option, None, Some, is_ok}
use Rattle.std.specs.Option.{ok_or}
use Rattle.markets.specs.Numbers.{is_named}
use Rattle.markets.specs.declared.Market.{Market}
use Rattle.host.proofs.made.painterend_new.Goals as goal

told : {E : Type 0} (x : Option Market) (e : E) → is_ok (ok_or x e) ≡ is_named x
told (Some m) e = refl
told None e = refl

pub returns : goal.returns
returns c = record { known = c.is_ok.ensures.value ∙ ap is_ok c.try_from.ensures ∙ told _ _; fresh = rw c.market_of.ensures at c.new.ensures }

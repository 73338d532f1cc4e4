-- The promises leave one outcome: of two results that meet a promise on the same orders the answers are equal, and every symbol has the same live orders.
use mathlib.Core.Path.{◌≡◌, sym, ap, ◌∙◌}
use Prim.Native.Nat.{ℕ}
use Rattle.std.specs.Prelude.{Result}
use Rattle.places.proofs.EightShelves.{by_place, alike_everywhere}
use Rattle.orders.specs.State.{live_at, Wf}
use Rattle.orders.specs.Promises.{Changes, Clears}
use Rattle.orders.specs.declared.Orders.{Orders}
use Rattle.orders.specs.declared.Change.{Change}
use Rattle.orders.specs.declared.Unfit.{Unfit}

abbrev SameLive : Orders → Orders → Type 0
SameLive a b = (m : ℕ) → live_at a m ≡ live_at b m

module _ {b : Orders} {k : ℕ} where
  pub one_changed : {c : Change} {p q : Orders} {r s : Result (Unit {0}) Unfit} → Wf b → Changes b k c p r → Changes b k c q s → (r ≡ s) × SameLive p q
  one_changed {c} {p} {q} {r} {s} w f g = by_place k
      (λ h. let x = f.obeys h w in let y = g.obeys h w in
      (x.fit ∙ sym y.fit, alike_everywhere (live_at p) (live_at q) k (x.own ∙ sym y.own) (λ m ne. x.others m ne ∙ sym (y.others m ne))))
      (λ h. let x = f.outside h in let y = g.outside h in
      (x.1 ∙ sym y.1, λ m. ap (λ (z : Orders). live_at z m) (x.0 ∙ sym y.0)))

  pub one_cleared : {q r : Orders} → Clears b k q → Clears b k r → SameLive q r
  one_cleared {q} {r} p s = by_place k
      (λ h. alike_everywhere (live_at q) (live_at r) k (p.own h ∙ sym (s.own h)) (λ m ne. p.others m ne ∙ sym (s.others m ne)))
      (λ h m. ap (λ (x : Orders). live_at x m) (p.outside h ∙ sym (s.outside h)))

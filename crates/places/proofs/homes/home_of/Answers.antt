-- What is spread has 32 bits and there are fewer than 65,536 places, so no product wraps.
use mathlib.Core.Path.{ap}
use Prim.Native.Nat.{ℕ}
use Rattle.places.specs.Homes.{home_of}
use Rattle.places.proofs.homes.home_of.Goals as goal

pub returns : goal.returns
unfolding home_of
returns c = ap (λ (n : ℕ). home_of n c.args.number) c.from.ensures

-- What reading hands on has the type that the bytes say, and what it refuses it refuses with 1 to 4.
use mathlib.Core.List.{List}
use mathlib.Core.Path.{◌≡◌}
use Prim.Native.Nat.{ℕ, ◌≤◌}
use native.Mathlib.Omega.{arith}
use Rattle.wire.specs.Outcome.{Outcome, done, refused}
use Rattle.wire.specs.Message.{type_of}
use Rattle.wire.specs.Reading.{msg_type, reach_of, Read, read_of}
use Rattle.wire.specs.declared.Message.{Message}
use Rattle.markets.specs.declared.Market.{Market}
use Rattle.wire.proofs.Refusing.{reach_refused}
use Rattle.wire.proofs.RoundTrip.{keeps}
use Rattle.wire.proofs.Ways.{HowRead, unreached, unknown_type, other_size, bad_field, good_fields, how_read}

-- a message of the type n, or a number from 1 to 4
abbrev pub Tells : ℕ → Outcome Message → Type 0
Tells n (done m) = type_of m ≡ n
Tells n (refused a) = (1 ≤ a) × (a ≤ 4)

module _ (s : List ℕ) where
  -- a stop is answered 1 or 2
  pub reach_refuses : (a : ℕ) → reach_of s ≡ refused a → (1 ≤ a) × (a ≤ 2)
  reach_refuses = reach_refused (λ (k : ℕ). (1 ≤ k) × (k ≤ 2)) (omega arith, omega arith) (omega arith, omega arith) s

  pub read_tells : (market : Market) → Tells (msg_type s) (read_of market s).outcome
  read_tells market = go (read_of market s) (how_read market s)
    where
      go : (r : Read) → HowRead market s r → Tells (msg_type s) r.outcome
      go _ (unreached {n = n} e) = (omega (arith, (reach_refuses n e).0), omega (arith, (reach_refuses n e).1))
      go _ (unknown_type there e) = (omega arith, omega arith)
      go _ (other_size there known e) = (omega arith, omega arith)
      go _ (bad_field there known e) = (omega arith, omega arith)
      go _ (good_fields {l = l} there known e) = (keeps (msg_type s) l known).type s

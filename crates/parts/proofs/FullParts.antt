-- Msg Size is two bytes, so a full part has room for a message of any size.
use mathlib.Core.Bool.{Bool, true, false}
use mathlib.Core.List.{List}
use mathlib.Core.Path.{◌≡◌, refl, ap}
use Prim.Native.Nat.{ℕ, ◌+◌, ◌*◌, ◌<◌, ◌≤◌}
use native.Mathlib.Omega.{arith}
use lib.Dec.{ltb}
use lib.ListN.{length, get_or}
use borrow.Author.Tests.{ltb-true, ltb-false}
use Rattle.wire.specs.Bytes.{value_at}
use Rattle.wire.specs.Reading.{least_size, msg_size}
use Rattle.wire.specs.RoundTrip.{Bytes}
use Rattle.wire.proofs.Cases.{reach_small, reach_size}
use Rattle.wire.proofs.Numbers.{value_empty, value_before}
use Rattle.book.specs.Walk.{Walk, walk_of}
use Rattle.parts.specs.Parts.{part_room}
use Rattle.parts.proofs.Walks.{walk_stops, walk_goes}

module _ (s : List ℕ) (bytes : Bytes s) (full : part_room ≤ length s) where
  size_fits : msg_size s < part_room
  size_fits =
      let none = value_empty s 2 in
      let second : get_or s 1 0 + 256 * value_at s 2 2 ≡ value_at s 1 2 = value_before s 2 2 (omega arith) (omega arith) (omega arith) in
      let first : get_or s 0 0 + 256 * value_at s 1 2 ≡ msg_size s = value_before s 1 2 (omega arith) (omega arith) (omega arith) in
      omega (arith, bytes 0, bytes 1)

  -- a full part that ends in the middle of a message, or at its end, has one before it
  pub full_part_moves : (walk_of s 0).answer ≡ 1 → 0 < (walk_of s 0).at
  full_part_moves one = go (ltb (msg_size s) least_size) refl
    where
      go : (small : Bool) → ltb (msg_size s) least_size ≡ small → 0 < (walk_of s 0).at
      go true e = absurd (omega (arith, one, ap (λ (w : Walk). w.answer) (walk_stops s 2 (reach_small s (omega (arith, full)) (ltb-true (msg_size s) least_size e)))))
      go false e =
          let least = ltb-false (msg_size s) least_size e in
          omega (arith, least, ap (λ (w : Walk). w.at) (walk_goes s (msg_size s) (reach_size s (omega (arith, full)) least (omega (arith, full, size_fits)))))

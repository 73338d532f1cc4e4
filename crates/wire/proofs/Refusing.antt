-- A refusal has its clause's number, hands back no message or leaves the buffer; the clause that is done lays its bytes before what stood behind them.
use Rattle.std.specs.Prelude.{None}
use mathlib.Core.Bool.{Bool, true, false}
use mathlib.Core.List.{List}
use mathlib.Core.Path.{◌≡◌, refl, sym, ap, ◌∙◌, subst}
use Prim.Native.Nat.{ℕ}
use native.Mathlib.Omega.{arith}
use lib.Dec.{ltb}
use lib.ListN.{length, take, drop, replicate, length-append, length-drop}
use lib.Seq.{length-take-le, drop_at}
use Rattle.wire.specs.Outcome.{Outcome, done, refused, number_of}
use Rattle.wire.specs.Bytes.{plain_room}
use Rattle.wire.specs.Table.{shape_of}
use Rattle.wire.specs.Message.{fields_of, type_of}
use Rattle.wire.specs.Reading.{least_size, msg_size, reach_by, reach_of, Read, read_of}
use Rattle.wire.specs.Writing.{Write, Fills, image_of, write_of}
use Rattle.wire.specs.declared.Message.{Message}
use Rattle.markets.specs.declared.Market.{Market}
use Rattle.wire.proofs.Cases.{done_is_not_refused, reached, reach_size, own_size}
use Rattle.wire.proofs.Types.{IsKnown, type_known}
use Rattle.wire.proofs.Layouts.{layout_sane}
use Rattle.wire.proofs.Images.{image_long}
use Rattle.wire.proofs.Ways.{HowRead, unreached, unknown_type, other_size, bad_field, good_fields, how_read, HowWritten, no_room, all_written, how_written}

-- a refusal has one number
same_number : {A : Type 0} (P : ℕ → Type 0) (k n : ℕ) → P k → ◌≡◌ {A = Outcome A} (refused k) (refused n) → P n
same_number P k n h e = subst P (ap number_of e) h

-- ---- how far a message reaches: what holds of 1 and 2 holds of a refusal
pub reach_refused : (P : ℕ → Type 0) → P 1 → P 2 → (s : List ℕ) (n : ℕ) → reach_of s ≡ refused n → P n
unfolding reach_of reach_by
reach_refused P short small s n = go (ltb (length s) least_size) (ltb (msg_size s) least_size) (ltb (length s) (msg_size s))
  where
    go : (few below beyond : Bool) → reach_by few below beyond (msg_size s) ≡ refused n → P n
    go true below beyond e = same_number P 1 n short e
    go false true beyond e = same_number P 2 n small e
    go false false true e = same_number P 1 n short e
    go false false false e = absurd (done_is_not_refused (sym e))

-- ---- reading: what holds of 1 to 4 holds of a refusal, and it hands back zeros
module _ (P : ℕ → Type 0) (size : P 2) (type : P 3) (field : P 4) (market : Market) (s : List ℕ) where
  by_way : ((n : ℕ) → reach_of s ≡ refused n → P n) → (r : Read) → HowRead market s r → (n : ℕ) → r.outcome ≡ refused n → P n
  by_way unread _ (unreached {n = k} q) n e = same_number P k n (unread k q) e
  by_way unread _ (unknown_type there q) n e = same_number P 3 n type e
  by_way unread _ (other_size there known q) n e = same_number P 2 n size e
  by_way unread _ (bad_field there known q) n e = same_number P 4 n field e
  by_way unread _ (good_fields there known q) n e = absurd (done_is_not_refused (sym e))

  pub read_refused : P 1 → (n : ℕ) → (read_of market s).outcome ≡ refused n → P n
  read_refused short = by_way (reach_refused P short size s) (read_of market s) (how_read market s)

pub read_zeros : (market : Market) (s : List ℕ) (n : ℕ) → (read_of market s).outcome ≡ refused n → (read_of market s).plain ≡ replicate plain_room 0
read_zeros market s n = go (read_of market s) (how_read market s)
  where
    go : (r : Read) → HowRead market s r → r.outcome ≡ refused n → r.plain ≡ replicate plain_room 0
    go _ (unreached q) e = refl
    go _ (unknown_type there q) e = refl
    go _ (other_size there known q) e = refl
    go _ (bad_field there known q) e = refl
    go _ (good_fields there known q) e = absurd (done_is_not_refused (sym e))

-- ---- a message that is reached is not refused for its bytes being too few
pub own_reach : (s : List ℕ) (n : ℕ) → reach_of s ≡ done n → reach_of (take n s) ≡ done n
own_reach s n e =
    let r = reached s n e in
    let long : length (take n s) ≡ n = length-take-le n s r.there in
    reach_size (take n s) (omega (arith, r.least)) (omega (arith, r.least, own_size s n e)) (omega (arith, own_size s n e)) ∙ ap done (own_size s n e)

pub reached_refused : (P : ℕ → Type 0) → P 2 → P 3 → P 4 → (market : Market) (s : List ℕ) (n : ℕ) → reach_of s ≡ done n → (k : ℕ) → (read_of market (take n s)).outcome ≡ refused k → P k
reached_refused P size type field market s n e = by_way P size type field market (take n s) (λ k q. absurd (done_is_not_refused (sym q ∙ own_reach s n e))) (read_of market (take n s)) (how_read market (take n s))

-- ---- writing: what holds of 4 and 15 holds of a refusal, and it leaves the buffer
module _ (market : Market) (m : Message) (plain out : List ℕ) where
  known_type : shape_of (type_of m) ≡ None → ⊥
  known_type e = subst IsKnown e (type_known m)

  pub write_refused : (P : ℕ → Type 0) → P 4 → P 15 → (n : ℕ) → (write_of market m plain out).outcome ≡ refused n → P n
  write_refused P field room n = go (write_of market m plain out) (how_written market m plain out)
    where
      go : (w : Write) → HowWritten market m plain out w → w.outcome ≡ refused n → P n
      go _ (unknown_type q) e = absurd (known_type q)
      go _ (bad_field known q) e = same_number P 4 n field e
      go _ (no_room known good short) e = same_number P 15 n room e
      go _ (all_written known good fits) e = absurd (done_is_not_refused (sym e))

  pub write_untouched : (n : ℕ) → (write_of market m plain out).outcome ≡ refused n → (write_of market m plain out).out ≡ out
  write_untouched n = go (write_of market m plain out) (how_written market m plain out)
    where
      go : (w : Write) → HowWritten market m plain out w → w.outcome ≡ refused n → w.out ≡ out
      go _ (unknown_type q) e = refl
      go _ (bad_field known q) e = refl
      go _ (no_room known good short) e = refl
      go _ (all_written known good fits) e = absurd (done_is_not_refused (sym e))

  -- ---- and whatever is answered, no byte beyond the count changes
  pub write_fills : length plain ≡ plain_room → Fills out (write_of market m plain out)
  write_fills long = go (write_of market m plain out) (how_written market m plain out)
    where
      go : (w : Write) → HowWritten market m plain out w → Fills out w
      go _ (unknown_type q) = record { long = refl; within = omega arith; beyond = refl }
      go _ (bad_field known q) = record { long = refl; within = omega arith; beyond = refl }
      go _ (no_room known good short) = record { long = refl; within = omega arith; beyond = refl }
      go _ (all_written {l = l} known good fits) =
          let image = image_long l (layout_sane (type_of m) l known) (type_of m) (fields_of m) plain (drop l.size out) long in
          record {
            long = length-append (image_of l (type_of m) (fields_of m) plain) (drop l.size out) ∙ omega (arith, image, fits, length-drop l.size out);
            within = omega (arith, fits);
            beyond = drop_at (image_of l (type_of m) (fields_of m) plain) (drop l.size out) l.size image;
          }

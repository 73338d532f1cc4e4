-- The tests of reading and writing decide the clause, so each case is one law. The crates above cite these.
use Rattle.std.specs.Prelude.{Option, Some, None, Err}
use mathlib.Core.Path.{◌≡◌, refl, sym, ap, ◌∙◌}
use mathlib.Core.List.{List, ◌++◌}
use mathlib.Core.Bool.{Bool, true, false}
use Prim.Native.Nat.{ℕ, ◌≤◌, ◌<◌}
use native.Mathlib.Omega.{arith}
use lib.ListN.{length, take, drop, length-append}
use lib.Dec.{ltb}
use borrow.Author.Tests.{lt-ltb, le-ltb, eq-eqb, ne_eqb, ltb-false}
use lib.Seq.{take-take, take-append-le}
use Rattle.wire.specs.declared.table.Layout.{Layout}
use Rattle.wire.specs.declared.Message.{Message}
use Rattle.wire.specs.declared.ReachError.{ReachError}
use Rattle.markets.specs.declared.Market.{Market}
use Rattle.wire.specs.Outcome.{Outcome, done, refused, only}
use Rattle.wire.specs.Bytes.{value}
use Rattle.wire.specs.Table.{shape_of}
use Rattle.wire.specs.Fields.{fields_at, array_at, array_of, fault_of}
use Rattle.wire.specs.Message.{fields_of, type_of}
use Rattle.wire.specs.Reading.{least_size, msg_size, msg_type, reach_by, reach_of, no_message, bad_message, good_read, read_by, read_body, read_sized, read_shape, read_typed, read_reached, read_of, reached_as, decoded_as, unreached_as}
use Rattle.wire.specs.Writing.{leaving, refuse, refuse_field, image_of, write_sized, write_by, write_shape, write_of}

-- what is done is not refused
pub done_is_not_refused : {A : Type 0} {a : A} {n : ℕ} → refused n ≡ done a → ⊥
done_is_not_refused e = let z : ◌≡◌ {A = ℕ} 0 1 = cc in omega arith

-- ---- how far a message reaches
module _ (s : List ℕ) where
  pub reach_short : length s < least_size → reach_of s ≡ refused 1
  unfolding reach_of reach_by
  reach_short h = rw (lt-ltb _ _ h)

  pub reach_small : least_size ≤ length s → msg_size s < least_size → reach_of s ≡ refused 2
  unfolding reach_of reach_by
  reach_small h k = rw (le-ltb _ _ h, lt-ltb _ _ k)

  pub reach_beyond : least_size ≤ length s → least_size ≤ msg_size s → length s < msg_size s → reach_of s ≡ refused 1
  unfolding reach_of reach_by
  reach_beyond h k m = rw (le-ltb _ _ h, le-ltb _ _ k, lt-ltb _ _ m)

  pub reach_size : least_size ≤ length s → least_size ≤ msg_size s → msg_size s ≤ length s → reach_of s ≡ done (msg_size s)
  unfolding reach_of reach_by
  reach_size h k m = rw (le-ltb _ _ h, le-ltb _ _ k, le-ltb _ _ m)

-- a message that is reached has its Msg Size, four bytes or more, all of them there
pub record Reaches (s : List ℕ) (n : ℕ) : Type 0 where
  pub size : msg_size s ≡ n
  pub least : least_size ≤ n
  pub there : n ≤ length s

reached_by : (s : List ℕ) (n : ℕ) (short below beyond : Bool) → ltb (msg_size s) least_size ≡ below → ltb (length s) (msg_size s) ≡ beyond →
    reach_by short below beyond (msg_size s) ≡ done n → Reaches s n
unfolding reach_by
reached_by s n true below beyond p q e = absurd (done_is_not_refused e)
reached_by s n false true beyond p q e = absurd (done_is_not_refused e)
reached_by s n false false true p q e = absurd (done_is_not_refused e)
reached_by s n false false false p q e =
    let same : msg_size s ≡ n = cc in
    record { size = same; least = omega (arith, ltb-false (msg_size s) least_size p); there = omega (arith, ltb-false (length s) (msg_size s) q) }

pub reached : (s : List ℕ) (n : ℕ) → reach_of s ≡ done n → Reaches s n
unfolding reach_of
reached s n e = reached_by s n (ltb (length s) least_size) (ltb (msg_size s) least_size) (ltb (length s) (msg_size s)) refl refl e

-- its own bytes have that Msg Size, and with more bytes behind it is the same message
pub own_size : (s : List ℕ) (n : ℕ) → reach_of s ≡ done n → msg_size (take n s) ≡ n
own_size s n e = ap value (take-take 2 n s (omega (arith, (reached s n e).least))) ∙ (reached s n e).size

pub reach_more : (s t : List ℕ) (n : ℕ) → reach_of s ≡ done n → (reach_of (s ++ t) ≡ done n) × (take n (s ++ t) ≡ take n s)
reach_more s t n e =
    let r = reached s n e in
    let len = length-append s t in
    let size : msg_size (s ++ t) ≡ n = ap value (take-append-le 2 s t (omega (arith, r.least, r.there))) ∙ r.size in
    (reach_size (s ++ t) (omega (arith, r.least, r.there)) (omega (arith, r.least)) (omega (arith, r.there)) ∙ ap done size, take-append-le n s t r.there)

-- ---- reading
module _ (market : Market) (s : List ℕ) where
  pub read_unreached : (n : ℕ) → reach_of s ≡ refused n → read_of market s ≡ no_message n
  unfolding read_of read_reached
  read_unreached n e = ap (λ (x : Outcome ℕ). read_reached x market s) e

  -- with the refusal of what is not reached
  pub read_stopped : (e : ReachError) → reached_as (Err e) ≡ reach_of s → decoded_as (Err (unreached_as e)) ≡ read_of market s
  read_stopped ReachError.Short e = sym (read_unreached 1 (sym e))
  read_stopped ReachError.Small e = sym (read_unreached 2 (sym e))

  pub read_reached_lem : (size : ℕ) → reach_of s ≡ done size → read_of market s ≡ read_typed market s size
  unfolding read_of read_reached
  read_reached_lem size e = ap (λ (x : Outcome ℕ). read_reached x market s) e

  pub read_unknown : (size : ℕ) → shape_of (msg_type s) ≡ None → read_typed market s size ≡ no_message 3
  unfolding read_typed read_shape
  read_unknown size e = ap (λ (x : Option Layout). read_shape x market s size) e

  module _ (size : ℕ) (l : Layout) (known : shape_of (msg_type s) ≡ Some l) where
    pub read_other_size : (size ≡ l.size → ⊥) → read_typed market s size ≡ no_message 2
    unfolding read_typed read_shape read_sized
    read_other_size h = ap (λ (x : Option Layout). read_shape x market s size) known ∙ rw (ne_eqb _ _ h)

    pub read_size : size ≡ l.size → read_typed market s size ≡ read_body market s l
    unfolding read_typed read_shape read_sized
    read_size h = ap (λ (x : Option Layout). read_shape x market s size) known ∙ rw (eq-eqb _ _ h)

  pub read_bad_field : (l : Layout) (n : ℕ) → fault_of market l (fields_at s l) (array_at s l) ≡ Some n → read_body market s l ≡ bad_message n
  unfolding read_body read_by
  read_bad_field l n e = ap (λ (f : Option ℕ). read_by f s l) e

  pub read_good : (l : Layout) → fault_of market l (fields_at s l) (array_at s l) ≡ None → read_body market s l ≡ good_read s l (fields_at s l)
  unfolding read_body read_by
  read_good l e = ap (λ (f : Option ℕ). read_by f s l) e

-- ---- writing
module _ (market : Market) (m : Message) (plain out : List ℕ) where
  pub write_unknown : shape_of (type_of m) ≡ None → write_of market m plain out ≡ refuse 3 out
  unfolding write_of write_shape
  write_unknown h = ap (λ (x : Option Layout). write_shape x market m plain out) h

  module _ (l : Layout) (known : shape_of (type_of m) ≡ Some l) where
    write_known : write_of market m plain out ≡ write_by (fault_of market l (fields_of m) (array_of l plain)) l m plain out
    unfolding write_of write_shape
    write_known = ap (λ (x : Option Layout). write_shape x market m plain out) known

    pub write_bad_field : (n : ℕ) → fault_of market l (fields_of m) (array_of l plain) ≡ Some n → write_of market m plain out ≡ refuse_field n out
    unfolding write_by
    write_bad_field n k = write_known ∙ ap (λ (x : Option ℕ). write_by x l m plain out) k

    pub write_good : fault_of market l (fields_of m) (array_of l plain) ≡ None → write_of market m plain out ≡ write_sized (ltb (length out) l.size) l.size (image_of l (type_of m) (fields_of m) plain) out
    unfolding write_by
    write_good k = write_known ∙ ap (λ (x : Option ℕ). write_by x l m plain out) k

-- the bytes of a message, where there is room for them and where there is not
module _ (size : ℕ) (image out : List ℕ) where
  pub write_no_room : length out < size → write_sized (ltb (length out) size) size image out ≡ refuse 15 out
  unfolding write_sized
  write_no_room g = rw (lt-ltb _ _ g)

  pub write_room : size ≤ length out → write_sized (ltb (length out) size) size image out ≡ leaving (only (done size)) (image ++ drop size out)
  unfolding write_sized
  write_room g = rw (le-ltb _ _ g)

-- By the way that a read, a test or a write went: with a bad field 4 is answered, with the offset of the first one, and with every other answer the offset is 0.
use Rattle.std.specs.Prelude.{Option, Some, None}
use mathlib.Core.List.{List}
use mathlib.Core.Logic.{◌≢◌}
use mathlib.Core.Path.{◌≡◌, refl, sym, ap, ◌∙◌, subst}
use Prim.Native.Nat.{ℕ}
use native.Mathlib.Omega.{arith}
use Rattle.wire.specs.Outcome.{Outcome, done, number_of}
use Rattle.wire.specs.Table.{shape_of}
use Rattle.wire.specs.Fields.{fields_at, array_at, array_of, fault_of, fault_as}
use Rattle.wire.specs.Message.{fields_of, type_of, fault_under, fault_in, bad_field_of}
use Rattle.wire.specs.Reading.{msg_type, reach_of, Read, read_of}
use Rattle.wire.specs.Writing.{Write, write_of}
use Rattle.wire.specs.FirstBad.{FirstBad, FirstBadIn, FirstBadOf, Locates}
use Rattle.wire.specs.declared.table.Layout.{Layout}
use Rattle.wire.specs.declared.Message.{Message}
use Rattle.markets.specs.declared.Market.{Market}
use Rattle.wire.proofs.Cases.{done_is_not_refused}
use Rattle.wire.proofs.Checks.{one_first, no_first, bytes_first, message_first}
use Rattle.wire.proofs.Refusing.{reach_refused}
use Rattle.wire.proofs.Ways.{HowRead, unreached, unknown_type, other_size, bad_field, good_fields, how_read, HowWritten, no_room, all_written, how_written}

-- ---- beside an answer
module _ (First : ℕ → Type 0) where
  pub locates_none : (number : ℕ) → number ≢ 4 → ((n : ℕ) → First n → ⊥) → Locates First number 0
  locates_none number other none = record { bad_field = λ four. absurd (other four); answered = λ n f. absurd (none n f); no_field = λ x. refl }

  pub locates_at : (n : ℕ) → First n → ((k : ℕ) → First k → n ≡ k) → Locates First 4 n
  locates_at n f one = record { bad_field = λ four. f; answered = λ k g. (refl, one k g); no_field = λ other. absurd (other refl) }

-- a type has one layout
same_layout : {x : Option Layout} {l k : Layout} → x ≡ Some l → x ≡ Some k → l ≡ k
same_layout p q = let e = sym p ∙ q in cc

no_layout : {x : Option Layout} {l : Layout} → x ≡ None → x ≡ Some l → ⊥
no_layout p q = let e = sym p ∙ q in let z : ◌≡◌ {A = ℕ} 0 1 = cc in omega arith

same_size : {n k : ℕ} → ◌≡◌ {A = Outcome ℕ} (done n) (done k) → n ≡ k
same_size e = cc

-- ---- reading
module _ (market : Market) (s : List ℕ) where
  under : (l : Layout) → shape_of (msg_type s) ≡ Some l → (n : ℕ) → FirstBadIn market s n → FirstBad market l (fields_at s l) (array_at s l) n
  under l known n x = subst (λ (y : Layout). FirstBad market y (fields_at s y) (array_at s y) n) (same_layout x.known known) x.first

  sized : (size : ℕ) (l : Layout) → reach_of s ≡ done size → shape_of (msg_type s) ≡ Some l → (n : ℕ) → FirstBadIn market s n → size ≡ l.size
  sized size l there known n x =
      let same : size ≡ x.layout.size = same_size (sym there ∙ x.there) in
      same ∙ ap (λ (y : Layout). y.size) (same_layout x.known known)

  pub read_locates : Locates (FirstBadIn market s) (number_of (read_of market s).outcome) (read_of market s).offset
  read_locates = go (read_of market s) (how_read market s)
    where
      go : (r : Read) → HowRead market s r → Locates (FirstBadIn market s) (number_of r.outcome) r.offset
      go _ (unreached {n = n} e) = locates_none (FirstBadIn market s) n (reach_refused (λ (k : ℕ). k ≢ 4) (λ z. omega (arith, z)) (λ z. omega (arith, z)) s n e) (λ k x. done_is_not_refused (sym e ∙ x.there))
      go _ (unknown_type there e) = locates_none (FirstBadIn market s) 3 (λ z. omega (arith, z)) (λ k x. no_layout e x.known)
      go _ (other_size {size = size} {l = l} there known e) = locates_none (FirstBadIn market s) 2 (λ z. omega (arith, z)) (λ k x. e (sized size l there known k x))
      go _ (bad_field {l = l} {n = n} there known e) =
          let first = bytes_first market s l known n e in
          locates_at (FirstBadIn market s) n (record { layout = l; known = known; there = there; first = first }) (λ k x. one_first first (under l known k x))
      go _ (good_fields {l = l} there known e) = locates_none (FirstBadIn market s) 0 (λ z. omega (arith, z)) (λ k x. no_first e (under l known k x))

-- ---- a typed message
module _ (market : Market) (m : Message) (plain : List ℕ) where
  under_type : (l : Layout) → shape_of (type_of m) ≡ Some l → (n : ℕ) → FirstBadOf market m plain n → FirstBad market l (fields_of m) (array_of l plain) n
  under_type l known n x = subst (λ (y : Layout). FirstBad market y (fields_of m) (array_of y plain) n) (same_layout x.known known) x.first

  located : (l : Layout) → shape_of (type_of m) ≡ Some l → (n : ℕ) → fault_of market l (fields_of m) (array_of l plain) ≡ Some n → Locates (FirstBadOf market m plain) 4 n
  located l known n e =
      let first = message_first market m plain l known n e in
      locates_at (FirstBadOf market m plain) n (record { layout = l; known = known; first = first }) (λ k x. one_first first (under_type l known k x))

  unlocated : (l : Layout) → shape_of (type_of m) ≡ Some l → fault_of market l (fields_of m) (array_of l plain) ≡ None → (number : ℕ) → number ≢ 4 → Locates (FirstBadOf market m plain) number 0
  unlocated l known e number other = locates_none (FirstBadOf market m plain) number other (λ k x. no_first e (under_type l known k x))

  -- tested
  pub field_locates : Locates (FirstBadOf market m plain) (number_of (bad_field_of market m plain).outcome) (bad_field_of market m plain).offset
  unfolding fault_in
  field_locates = by_shape (shape_of (type_of m)) refl
    where
      by_fault : (l : Layout) → shape_of (type_of m) ≡ Some l → (x : Option ℕ) → fault_of market l (fields_of m) (array_of l plain) ≡ x → Locates (FirstBadOf market m plain) (number_of (fault_as x).outcome) (fault_as x).offset
      by_fault l known None e = unlocated l known e 0 (λ z. omega (arith, z))
      by_fault l known (Some n) e = located l known n e

      by_shape : (x : Option Layout) → shape_of (type_of m) ≡ x → Locates (FirstBadOf market m plain) (number_of (fault_as (fault_under x market m plain)).outcome) (fault_as (fault_under x market m plain)).offset
      by_shape None e = locates_none (FirstBadOf market m plain) 0 (λ z. omega (arith, z)) (λ k x. no_layout e x.known)
      by_shape (Some l) e = by_fault l e (fault_of market l (fields_of m) (array_of l plain)) refl

  -- written
  pub write_locates : (out : List ℕ) → Locates (FirstBadOf market m plain) (number_of (write_of market m plain out).outcome) (write_of market m plain out).offset
  write_locates out = go (write_of market m plain out) (how_written market m plain out)
    where
      go : (w : Write) → HowWritten market m plain out w → Locates (FirstBadOf market m plain) (number_of w.outcome) w.offset
      go _ (unknown_type e) = locates_none (FirstBadOf market m plain) 3 (λ z. omega (arith, z)) (λ k x. no_layout e x.known)
      go _ (bad_field {l = l} {n = n} known e) = located l known n e
      go _ (no_room {l = l} known good short) = unlocated l known good 15 (λ z. omega (arith, z))
      go _ (all_written {l = l} known good fits) = unlocated l known good 0 (λ z. omega (arith, z))

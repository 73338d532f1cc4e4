-- Numbers stored one after the other leave their bytes, and what lies behind them as it was.
use mathlib.Core.Path.{◌≡◌, refl, sym, ap, ◌∙◌}
use mathlib.Core.List.{List, [], ◌∷◌, ◌++◌, append_assoc, append-nil}
use Prim.Native.Nat.{ℕ, ◌+◌, ◌-◌, ◌≤◌}
use native.Mathlib.Omega.{arith}
use lib.ListN.{length, take, drop, length-append, length-drop}
use lib.Seq.{take_at, drop_at, drop-drop, length-take-le, length-slice}
use borrow.Rule.Slice.PartMut.{put_mid, post_of, Post-is}
use Rattle.std.specs.List.{between}
use Rattle.std.proofs.lemmas.Slice.{between_is}
use Rattle.wire.specs.Bytes.{little_endian, splice, plain_room, stored, Rising, bytes_of}
use Rattle.wire.specs.declared.table.Layout.{Layout}
use Rattle.wire.specs.declared.fields.Fields.{Fields}
use Rattle.wire.specs.Fields.{Sane, ends_of, values_of}
use Rattle.wire.specs.Writing.{image_of}
use Rattle.wire.proofs.Numbers.{length_little_endian}

-- ---- the first a places of cur are pre, and the others are as they were
record Filled (out : List ℕ) (a : ℕ) (pre cur : List ℕ) : Type 0 where
  pub long : length pre ≡ a
  pub is : cur ≡ pre ++ drop a out

filled_none : (out : List ℕ) → Filled out 0 [] out
filled_none out = record { long = refl; is = refl }

drop_past : (out pre : List ℕ) (a e : ℕ) → length pre ≡ a → a ≤ e → drop e (pre ++ drop a out) ≡ drop e out
drop_past out pre a e p h =
    let q : e ≡ a + (e - a) = omega arith in
    ap (λ (k : ℕ). drop k (pre ++ drop a out)) q
    ∙ sym (drop-drop (e - a) a (pre ++ drop a out))
    ∙ ap (drop (e - a)) (drop_at pre (drop a out) a p)
    ∙ drop-drop (e - a) a out ∙ ap (λ (k : ℕ). drop k out) (sym q)

filled_next : (out pre cur d : List ℕ) (a e : ℕ) → a ≤ e → length d ≡ e - a → Filled out a pre cur → Filled out e (pre ++ d) (splice cur a e d)
filled_next out pre cur d a e h k f = record {
  long = length-append pre d ∙ omega (arith, f.long);
  is = rw (f.is, take_at pre (drop a out) a f.long, drop_past out pre a e f.long h);
}

-- where the last of some fields ends
abbrev pub end_of : ℕ → List ℕ → ℕ
end_of a [] = a
end_of a (e ∷ es) = end_of e es

filled_all : (out : List ℕ) (ends v : List ℕ) (n a : ℕ) (pre cur : List ℕ) → length ends ≡ length v → Rising a ends n → Filled out a pre cur →
    Filled out (end_of a ends) (pre ++ bytes_of a ends v) (stored a ends v cur)
filled_all out [] v n a pre cur e r f = rw append-nil f
filled_all out (x ∷ ends) [] n a pre cur e r f = absurd (omega arith)
filled_all out (x ∷ ends) (y ∷ v) n a pre cur e r f =
    rw (← append_assoc pre (little_endian (x - a) y) (bytes_of x ends v))
    (filled_all out ends v n x (pre ++ little_endian (x - a) y) (splice cur a x (little_endian (x - a) y)) (omega arith) r.2
    (filled_next out pre cur (little_endian (x - a) y) a x r.0 (length_little_endian (x - a) y) f))

-- ---- numbers written over the parts of a list, one part after the other
abbrev pub laid : ℕ → List ℕ → List (List ℕ) → List ℕ → List ℕ
laid a [] parts cur = cur
laid a (e ∷ es) [] cur = cur
laid a (e ∷ es) (part ∷ parts) cur = laid e es parts (put_mid a (e - a) cur part)

-- each is the number at the length of the part
abbrev pub Lays : ℕ → List ℕ → List ℕ → List (List ℕ) → List ℕ → Type 0
Lays a [] v parts cur = Unit {0}
Lays a (e ∷ es) [] parts cur = ⊥
Lays a (e ∷ es) (x ∷ v) [] cur = ⊥
Lays a (e ∷ es) (x ∷ v) (part ∷ parts) cur = (part ≡ little_endian (length (between a e cur)) x) × Lays e es v parts (put_mid a (e - a) cur part)

put_splice : (a e : ℕ) (cur part : List ℕ) → a ≤ e → put_mid a (e - a) cur part ≡ splice cur a e part
put_splice a e cur part h = sym (append_assoc (take a cur) part (post_of a (e - a) cur)) ∙ ap (λ (l : List ℕ). take a cur ++ part ++ l) (Post-is a e cur h)

length_part : (a e : ℕ) (cur : List ℕ) → e ≤ length cur → length (between a e cur) ≡ e - a
length_part a e cur h = ap length (between_is cur a e) ∙ length-slice a e cur h

length_splice : (a e : ℕ) (cur part : List ℕ) → a ≤ e → e ≤ length cur → length part ≡ e - a → length (splice cur a e part) ≡ length cur
length_splice a e cur part h k m = length-append (take a cur ++ part) (drop e cur) ∙ omega (arith, length-append (take a cur) part, length-take-le a cur (omega (arith, h, k)), length-drop e cur, m, h, k)

-- so the list is stored, and is as long as it was
laid_stored : (a : ℕ) (es v : List ℕ) (parts : List (List ℕ)) (cur : List ℕ) → Rising a es (length cur) → Lays a es v parts cur
    → (laid a es parts cur ≡ stored a es v cur) × (length (laid a es parts cur) ≡ length cur)
laid_stored a [] v parts cur r h = (refl, refl)
laid_stored a (e ∷ es) [] parts cur r h = absurd h
laid_stored a (e ∷ es) (x ∷ v) [] cur r h = absurd h
laid_stored a (e ∷ es) (x ∷ v) (part ∷ parts) cur r h =
    let is = h.0 ∙ ap (λ (n : ℕ). little_endian n x) (length_part a e cur r.1) in
    let next = put_splice a e cur part r.0 ∙ ap (splice cur a e) is in
    let long = ap length next ∙ length_splice a e cur (little_endian (e - a) x) r.0 r.1 (length_little_endian (e - a) x) in
    let rest = laid_stored e es v parts (put_mid a (e - a) cur part) (rw long r.2) h.1 in
    (rest.0 ∙ ap (stored e es v) next, rest.1 ∙ long)

-- ---- the numbers, the byte array and the reserved byte at the end, stored in turn, are the message
module _ (l : Layout) (s : Sane l) where
  pub ends_rise : (n : ℕ) → l.size ≤ n → Rising 0 (ends_of l) n
  ends_rise n h = omega arith

  stored_is_image : (out plain : List ℕ) (type : ℕ) (f : Fields) → l.size ≤ length out → length plain ≡ plain_room →
      splice (splice (stored 0 (ends_of l) (values_of l.size type f) out) l.plain l.pad (take (l.pad - l.plain) plain)) l.pad l.size (little_endian (l.size - l.pad) 0)
      ≡ image_of l type f plain ++ drop l.size out
  unfolding image_of
  stored_is_image out plain type f h k =
      let v = values_of l.size type f in
      let d = take (l.pad - l.plain) plain in
      let numbers = filled_all out (ends_of l) v (length out) 0 [] out refl (ends_rise (length out) h) (filled_none out) in
      let with_array = filled_next out (bytes_of 0 (ends_of l) v) (stored 0 (ends_of l) v out) d l.plain l.pad (omega arith) (length-take-le (l.pad - l.plain) plain (omega arith)) numbers in
      (filled_next out (bytes_of 0 (ends_of l) v ++ d) (splice (stored 0 (ends_of l) v out) l.plain l.pad d) (little_endian (l.size - l.pad) 0) l.pad l.size (omega arith) (length_little_endian (l.size - l.pad) 0) with_array).is

  -- the same of parts that were written in turn: the numbers, the array, and the last byte
  pub laid_in_turn : (out plain : List ℕ) (type : ℕ) (f : Fields) → l.size ≤ length out → length plain ≡ plain_room
      → (parts : List (List ℕ)) (array last : List ℕ)
      → Lays 0 (ends_of l) (values_of l.size type f) parts out
      → array ≡ take (length (between l.plain l.pad (laid 0 (ends_of l) parts out))) plain
      → last ≡ little_endian (length (between l.pad l.size (put_mid l.plain (l.pad - l.plain) (laid 0 (ends_of l) parts out) array))) 0
      → put_mid l.pad (l.size - l.pad) (put_mid l.plain (l.pad - l.plain) (laid 0 (ends_of l) parts out) array) last ≡ image_of l type f plain ++ drop l.size out
  laid_in_turn out plain type f h k parts array last p q r =
      let cur = laid 0 (ends_of l) parts out in
      let numbers = laid_stored 0 (ends_of l) (values_of l.size type f) parts out (ends_rise (length out) h) p in
      let within : length cur ≡ length out = numbers.1 in
      let array_is : array ≡ take (l.pad - l.plain) plain = q ∙ ap (λ (n : ℕ). take n plain) (length_part l.plain l.pad cur (omega (arith, h, within))) in
      let with_array = put_splice l.plain l.pad cur array (omega arith) ∙ ap (splice cur l.plain l.pad) array_is in
      let as_many = ap length with_array ∙ length_splice l.plain l.pad cur (take (l.pad - l.plain) plain) (omega arith) (omega (arith, h, within)) (length-take-le (l.pad - l.plain) plain (omega (arith, k))) in
      let all = put_mid l.plain (l.pad - l.plain) cur array in
      let last_is = r ∙ ap (λ (n : ℕ). little_endian n 0) (length_part l.pad l.size all (omega (arith, h, within, as_many))) in
      put_splice l.pad l.size all last (omega arith) ∙ ap (splice all l.pad l.size) last_is
      ∙ ap (λ (x : List ℕ). splice x l.pad l.size (little_endian (l.size - l.pad) 0)) (with_array ∙ ap (λ (x : List ℕ). splice x l.plain l.pad (take (l.pad - l.plain) plain)) numbers.0)
      ∙ stored_is_image out plain type f h k

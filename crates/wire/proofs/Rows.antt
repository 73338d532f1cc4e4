-- Numbers one after the other, over any ends: what was written reads back, and what was read writes back.
use mathlib.Core.Path.{◌≡◌, refl, sym, ap, ◌∙◌}
use mathlib.Core.List.{List, [], ◌∷◌, ◌++◌, append_assoc}
use Prim.Native.Nat.{ℕ, ◌+◌, ◌-◌, ◌^◌, ◌≤◌, ◌<◌}
use native.Mathlib.Omega.{arith}
use lib.ListN.{length, take, drop, length-append, take-append-drop}
use lib.Seq.{slice, take_at, drop_at, drop-append-le, take-take, length-take-le, slice_empty}
use Rattle.wire.specs.Bytes.{value, little_endian, value_at, Rising, bytes_of, values_at}
use Rattle.wire.specs.RoundTrip.{Bytes}
use Rattle.wire.proofs.Numbers.{length_little_endian, value_of_little_endian, little_endian_of_slice}
use Rattle.wire.proofs.Laying.{end_of}

pub slice_between : (pre d post : List ℕ) (a e : ℕ) → length pre ≡ a → a ≤ e → length d ≡ e - a → slice a e (pre ++ d ++ post) ≡ d
slice_between pre d post a e p h q =
    let r : length (pre ++ d) ≡ e = length-append pre d ∙ omega arith in
    rw (take_at (pre ++ d) post e r, drop_at pre d a p)

-- each number fits the width up to its end
abbrev pub WithinWidths : ℕ → List ℕ → List ℕ → Type 0
WithinWidths a [] v = Unit {0}
WithinWidths a (e ∷ es) [] = Unit {0}
WithinWidths a (e ∷ es) (x ∷ v) = (x < 256 ^ (e - a)) × WithinWidths e es v

pub values_of_bytes : (ends v : List ℕ) (n a : ℕ) (pre rest : List ℕ) → length ends ≡ length v → length pre ≡ a → Rising a ends n → WithinWidths a ends v →
    values_at a ends (pre ++ bytes_of a ends v ++ rest) ≡ v
values_of_bytes [] [] n a pre rest k p r f = refl
values_of_bytes [] (x ∷ v) n a pre rest k p r f = absurd (omega arith)
values_of_bytes (e ∷ es) [] n a pre rest k p r f = absurd (omega arith)
values_of_bytes (e ∷ es) (x ∷ v) n a pre rest k p r f =
    let d = little_endian (e - a) x in
    let b = bytes_of e es v in
    let q : pre ++ (d ++ b) ++ rest ≡ pre ++ d ++ b ++ rest = ap (λ (l : List ℕ). l ++ rest) (sym (append_assoc pre d b)) in
    let m : pre ++ (d ++ b) ++ rest ≡ pre ++ d ++ (b ++ rest) = q ∙ append_assoc (pre ++ d) b rest in
    let ih = values_of_bytes es v n e (pre ++ d) rest (omega arith) (length-append pre d ∙ omega (arith, length_little_endian (e - a) x, r.0)) r.2 f.1 in
    let hd : value_at (pre ++ d ++ (b ++ rest)) a e ≡ x = ap value (slice_between pre d (b ++ rest) a e p r.0 (length_little_endian (e - a) x)) ∙ value_of_little_endian (e - a) x f.0 in
    let tl : values_at e es (pre ++ d ++ (b ++ rest)) ≡ v = ap (values_at e es) (sym (append_assoc (pre ++ d) b rest)) ∙ ih in
    ap (λ (s : List ℕ). value_at s a e ∷ values_at e es s) m ∙ (λ i. hd i ∷ tl i)

pub slices_join : (s : List ℕ) (a e l : ℕ) → a ≤ e → e ≤ l → l ≤ length s → slice a e s ++ slice e l s ≡ slice a l s
slices_join s a e l h k m =
    let t : List ℕ = take l s in
    let n : length t ≡ l = length-take-le l s m in
    let j : length (take e t) ≡ e = length-take-le e t (omega arith) in
    ap (λ (x : List ℕ). drop a x ++ drop e t) (sym (take-take e l s k))
    ∙ sym (drop-append-le a (take e t) (drop e t) (omega arith))
    ∙ ap (drop a) (take-append-drop e t)

end_within : (a : ℕ) (ends : List ℕ) (n : ℕ) → a ≤ n → Rising a ends n → (a ≤ end_of a ends) × (end_of a ends ≤ n)
end_within a [] n h r = (omega arith, h)
end_within a (e ∷ es) n h r = let q = end_within e es n r.1 r.2 in (omega (arith, q.0, r.0), q.1)

pub bytes_of_values : (s ends : List ℕ) (a : ℕ) → Bytes s → a ≤ length s → Rising a ends (length s) → bytes_of a ends (values_at a ends s) ≡ slice a (end_of a ends) s
bytes_of_values s [] a b h r = sym (slice_empty a s)
bytes_of_values s (e ∷ es) a b h r =
    let q = end_within e es (length s) r.1 r.2 in
    (λ i. little_endian_of_slice s a e b r.1 i ++ bytes_of_values s es e b r.1 r.2 i)
    ∙ slices_join s a e (end_of e es) r.0 q.0 q.1

pub length_of_bytes : (ends v : List ℕ) (n a : ℕ) → length ends ≡ length v → Rising a ends n → a + length (bytes_of a ends v) ≡ end_of a ends
length_of_bytes [] v n a k r = omega arith
length_of_bytes (e ∷ es) [] n a k r = absurd (omega arith)
length_of_bytes (e ∷ es) (x ∷ v) n a k r =
    omega (arith, length-append (little_endian (e - a) x) (bytes_of e es v), length_little_endian (e - a) x, length_of_bytes es v n e (omega arith) r.2, r.0)

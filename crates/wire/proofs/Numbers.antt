-- A number is its first byte and 256 times the rest, so reading and writing go one byte at a time, over every width.
use mathlib.Core.Path.{◌≡◌, refl, sym, ap, ◌∙◌}
use mathlib.Core.List.{List, [], ◌∷◌}
use Prim.Native.Nat.{ℕ, zero, suc, ◌+◌, ◌*◌, ◌-◌, ◌/◌, ◌%◌, ◌^◌, ◌≤◌, ◌<◌}
use native.Mathlib.Nat.{zero-add, one-mul, mul_comm, mul_assoc, pow-zero, pow-suc}
use native.Mathlib.Omega.{arith}
use lib.ListN.{length, take, drop, get_or}
use lib.Seq.{take-length, slice, slice-cons, slice_empty, length-slice}
use Rattle.std.specs.Int.{byte_worth, sum_through, bytes_low_first}
use Rattle.std.proofs.Math.Nat.{div-div-eq-div-mul}
use Rattle.wire.specs.Bytes.{value, little_endian, value_at, IsField}
use Rattle.std.specs.Prelude.{Result, Ok, Err, IsOk, MatchResult, ◌≢◌}
use Rattle.std.specs.Array.{IsWholeChunk}
use Rattle.std.specs.List.{between}
use Rattle.std.proofs.lemmas.Slice.{between_is}
use mathlib.Core.Logic.{⊎_elim}
use Rattle.wire.specs.RoundTrip.{Bytes}

-- ---- reading from the last byte to the first

pub value_empty : (s : List ℕ) (e : ℕ) → value_at s e e ≡ 0
unfolding value
value_empty s e = rw (slice_empty e s) refl

value_cons : (s : List ℕ) (i e : ℕ) → i < e → e ≤ length s → value_at s i e ≡ get_or s i 0 + 256 * value_at s (suc i) e
unfolding value
value_cons s i e h k = ap value (slice-cons i e s 0 h k)

pub value_before : (s : List ℕ) (i e : ℕ) → 0 < i → i ≤ e → e ≤ length s → get_or s (i - 1) 0 + 256 * value_at s i e ≡ value_at s (i - 1) e
value_before s i e p h k =
    let q : suc (i - 1) ≡ i = omega arith in
    sym (value_cons s (i - 1) e (omega arith) k ∙ ap (λ (j : ℕ). get_or s (i - 1) 0 + 256 * value_at s j e) q)

-- the number of a part of a slice is the number that stands there
pub value_part : (s : List ℕ) (a e : ℕ) → value (between a e s) ≡ value_at s a e
value_part s a e = ap value (between_is s a e)

-- ---- bytes written out
pub value_one : (s : List ℕ) (a e : ℕ) → a < e → e ≤ a + 1 → e ≤ length s → get_or s a 0 ≡ value_at s a e
value_one s a e h l k = let q : suc a ≡ e = omega (arith, h, l) in sym (value_cons s a e h k ∙ rw (q, value_empty s e) (omega arith))

pub value_two : (s : List ℕ) (a : ℕ) → a + 2 ≤ length s → get_or s a 0 + 256 * get_or s (a + 1) 0 ≡ value_at s a (a + 2)
value_two s a k =
    let q : suc a ≡ a + 1 = omega arith in
    sym (value_cons s a (a + 2) (omega arith) k ∙ rw q (ap (λ (x : ℕ). get_or s a 0 + 256 * x) (sym (value_one s (a + 1) (a + 2) (omega arith) (omega arith) k))))

-- two parts, the first of w bytes
value_joined : (s : List ℕ) (w a m e : ℕ) → a + w ≡ m → m ≤ e → e ≤ length s → value_at s a m + 256 ^ w * value_at s m e ≡ value_at s a e
value_joined s zero a m e p h k = let q : a ≡ m = omega (arith, p) in rw (q, value_empty s m, zero-add, pow-zero, one-mul)
value_joined s (suc w) a m e p h k =
    let ih = value_joined s w (suc a) m e (omega (arith, p)) h k in
    let x = value_cons s a m (omega (arith, p)) (omega (arith, h, k)) in
    let y = value_cons s a e (omega (arith, p, h)) k in
    rw (pow-suc, mul_comm (256 ^ w) 256, mul_assoc) (omega (arith, ih, x, y))

pub value_four : (s : List ℕ) (a : ℕ) → a + 4 ≤ length s → value_at s a (a + 2) + 65536 * value_at s (a + 2) (a + 2 + 2) ≡ value_at s a (a + 4)
value_four s a k = let q : a + 2 + 2 ≡ a + 4 = omega arith in rw q (value_joined s 2 a (a + 2) (a + 4) refl (omega arith) k)

pub value_eight : (s : List ℕ) (a : ℕ) → a + 8 ≤ length s → value_at s a (a + 4) + 4294967296 * value_at s (a + 4) (a + 4 + 4) ≡ value_at s a (a + 8)
value_eight s a k = let q : a + 4 + 4 ≡ a + 8 = omega arith in rw q (value_joined s 4 a (a + 4) (a + 8) refl (omega arith) k)

-- ---- writing

pub length_little_endian : (w v : ℕ) → length (little_endian w v) ≡ w
unfolding little_endian
length_little_endian zero v = refl
length_little_endian (suc w) v = ap suc (length_little_endian w (v / 256))

-- ---- the library's numbers: they are worth the same, and their bytes are the same
worth_next : (i b : ℕ) → byte_worth (suc i) b ≡ 256 * byte_worth i b
worth_next zero b = omega arith
worth_next (suc i) b = rw pow-suc (omega arith)

sum_shifted : (f : ℕ → ℕ) (k : ℕ) → sum_through f (suc k) ≡ f 0 + sum_through (λ i. f (suc i)) k
sum_shifted f zero = refl
sum_shifted f (suc k) = omega (arith, sum_shifted f k)

sum_scaled : (f g : ℕ → ℕ) → ((i : ℕ) → f i ≡ 256 * g i) → (k : ℕ) → sum_through f k ≡ 256 * sum_through g k
sum_scaled f g h zero = h 0
sum_scaled f g h (suc k) = omega (arith, h (suc k), sum_scaled f g h k)

pub value_through : (bs : List ℕ) (k : ℕ) → length bs ≡ suc k → sum_through (λ i. byte_worth i (get_or bs i 0)) k ≡ value bs
unfolding value
value_through [] k h = absurd (omega (arith, h))
value_through (b ∷ []) zero h = omega arith
value_through (b ∷ []) (suc k) h = absurd (omega (arith, h))
value_through (b ∷ c ∷ bs) zero h = absurd (omega (arith, h))
value_through (b ∷ c ∷ bs) (suc k) h =
    sum_shifted (λ i. byte_worth i (get_or (b ∷ c ∷ bs) i 0)) k
    ∙ ap (λ (x : ℕ). b + x) (sum_scaled (λ i. byte_worth (suc i) (get_or (c ∷ bs) i 0)) (λ i. byte_worth i (get_or (c ∷ bs) i 0)) (λ i. worth_next i (get_or (c ∷ bs) i 0)) k
    ∙ ap (λ (x : ℕ). 256 * x) (value_through (c ∷ bs) k (omega (arith, h))))

power_next : (i n : ℕ) → n / 256 ^ i / 256 ≡ n / 256 ^ suc i
power_next i n = div-div-eq-div-mul n (256 ^ i) 256 ∙ ap (λ (x : ℕ). n / x) (sym (pow-suc 256 i))

over_one : (n : ℕ) → n / 256 ^ 0 ≡ n
over_one n = omega arith

bytes_from : (i k n : ℕ) → little_endian k (n / 256 ^ i) ≡ bytes_low_first i k n
unfolding little_endian
bytes_from i zero n = refl
bytes_from zero (suc k) n = λ j. (over_one n j % 256) ∷ (ap (little_endian k) (power_next 0 n) ∙ bytes_from 1 k n) j
bytes_from (suc i) (suc k) n = ap (λ (l : List ℕ). n / 256 ^ suc i % 256 ∷ l) (ap (little_endian k) (power_next (suc i) n) ∙ bytes_from (suc (suc i)) k n)

pub bytes_low : (k n : ℕ) → bytes_low_first 0 k n ≡ little_endian k n
bytes_low k n = sym (bytes_from 0 k n) ∙ ap (little_endian k) (over_one n)

-- no bytes are 0, and 0 bytes are none
value_none : (l : List ℕ) → length l ≡ 0 → value l ≡ 0
unfolding value
value_none [] h = refl
value_none (x ∷ l) h = absurd (omega (arith, h))

take_whole : (l : List ℕ) (n : ℕ) → length l ≡ n → take n l ≡ l
take_whole l n h = rw (← h) (take-length l)

-- so the library reads a field, and writes it
pub field_read : {E : Type 0} (w : ℕ) (field : List ℕ) (bytes : Result (List ℕ) E) (n : ℕ) → 0 < w → IsField w (length field)
    → (length field ≡ w → IsOk bytes) × MatchResult bytes (λ y. IsWholeChunk field y w) (λ _. length field ≢ w)
    → MatchResult bytes (λ y. n ≡ sum_through (λ i. byte_worth i (get_or y i 0)) (w - 1)) (λ _. n ≡ 0) → n ≡ value field
field_read w field (Ok y) n some is whole found =
    found ∙ ap (λ (l : List ℕ). sum_through (λ i. byte_worth i (get_or l i 0)) (w - 1)) whole.1.same ∙ value_through field (w - 1) (omega (arith, some, whole.1.long))
field_read w field (Err e) n some is whole none = ⊎_elim (λ full. absurd (whole.1 full)) (λ empty. none ∙ sym (value_none field empty)) is

part_laid : (w v n : ℕ) → IsField w n → take n (little_endian w v) ≡ little_endian n v
unfolding little_endian
part_laid w v n = ⊎_elim (λ full. rw full (take_whole (little_endian w v) w (length_little_endian w v))) (λ empty. rw empty refl)

pub field_laid : (w v : ℕ) (field laid bytes : List ℕ) → IsField w (length field) → bytes ≡ bytes_low_first 0 w v → laid ≡ take (length field) bytes → laid ≡ little_endian (length field) v
field_laid w v field laid bytes is all part = part ∙ ap (take (length field)) (all ∙ bytes_low w v) ∙ part_laid w v (length field) is

-- ---- there and back

pub value_of_little_endian : (w v : ℕ) → v < 256 ^ w → value (little_endian w v) ≡ v
unfolding value little_endian
value_of_little_endian zero v h = omega arith
value_of_little_endian (suc w) v h =
    let h' : v < 256 ^ w * 256 = rw pow-suc at h in
    rw (value_of_little_endian w (v / 256) (omega arith)) (omega arith)

little_endian_of_value : (bs : List ℕ) → Bytes bs → little_endian (length bs) (value bs) ≡ bs
unfolding value little_endian
little_endian_of_value [] h = refl
little_endian_of_value (b ∷ bs) h =
    let hb : b < 256 = h 0 in
    let p : (b + 256 * value bs) % 256 ≡ b = omega arith in
    let q : (b + 256 * value bs) / 256 ≡ value bs = omega arith in
    rw (p, q, little_endian_of_value bs (λ i. h (suc i)))

bytes_take : (n : ℕ) (s : List ℕ) → Bytes s → Bytes (take n s)
bytes_take zero s h i = omega arith
bytes_take (suc n) [] h i = omega arith
bytes_take (suc n) (x ∷ s) h zero = h 0
bytes_take (suc n) (x ∷ s) h (suc i) = bytes_take n s (λ j. h (suc j)) i

bytes_drop : (n : ℕ) (s : List ℕ) → Bytes s → Bytes (drop n s)
bytes_drop zero s h i = h i
bytes_drop (suc n) [] h i = omega arith
bytes_drop (suc n) (x ∷ s) h i = bytes_drop n s (λ j. h (suc j)) i

pub little_endian_of_slice : (s : List ℕ) (a e : ℕ) → Bytes s → e ≤ length s → little_endian (e - a) (value_at s a e) ≡ slice a e s
little_endian_of_slice s a e h k =
    ap (λ (w : ℕ). little_endian w (value_at s a e)) (sym (length-slice a e s k)) ∙ little_endian_of_value (slice a e s) (bytes_drop a (take e s) (bytes_take e s h))

-- The digits of a number are those of its tenth and one more, so a number, and a price by its units and decimals, is built from the front.
use mathlib.Core.Path.{◌≡◌, refl, ap, sym, ◌∙◌}
use mathlib.Core.List.{[], ◌∷◌, ◌++◌, append-nil}
use mathlib.Core.Bool.{Bool, true, false}
use Prim.Native.Nat.{ℕ, zero, suc, ◌+◌, ◌-◌, ◌*◌, ◌/◌, ◌%◌, ◌^◌, ◌≤◌, ◌<◌}
use native.Mathlib.Nat.{pow-suc, pow-succ', div-one, div-div-eq-div-mul, div-lt_iff_lt-mul, div-eq_of_lt, mod-eq_of_lt}
use native.Mathlib.Numerals.{add-one, sub-one}
use native.Mathlib.Omega.{arith}
use borrow.Author.Tests.{lt-ltb, le-ltb, ltb-true, ltb-false}
use lib.ListN.{length, length-append}
use lib.Dec.{ltb}
use Rattle.columns.specs.Text.{point, digit, fixed, digits_by, digits, most_digits, priced, decimals}

-- ---- a fixed count of digits
fixed_none : (w n : ℕ) → w ≡ 0 → fixed w n ≡ []
unfolding fixed
fixed_none w n e = rw e refl

-- what stands before the last i of them: nothing, a digit more for each i less, all
pub fixed_begun : (w n : ℕ) → fixed (w - w) (n / 10 ^ w) ≡ []
fixed_begun w n = fixed_none (w - w) (n / 10 ^ w) (omega arith)

pub fixed_next : (w n i u : ℕ) → 0 < i → i ≤ w → u ≡ n / 10 ^ (i - 1) → fixed (w - (i - 1)) (n / 10 ^ (i - 1)) ≡ fixed (w - i) (n / 10 ^ i) ++ (digit (u % 10) ∷ [])
unfolding fixed
fixed_next w n zero u h k e = absurd (omega arith)
fixed_next w n (suc i) u h k e =
    let one_more : w - (suc i - 1) ≡ suc (w - suc i) = omega arith in
    let a_tenth : n / 10 ^ (suc i - 1) / 10 ≡ n / 10 ^ suc i = ap (λ j. n / 10 ^ j / 10) (sub-one (suc i)) ∙ div-div-eq-div-mul n (10 ^ i) 10 ∙ ap (λ j. n / j) (sym (pow-suc 10 i)) in
    rw (one_more, e, a_tenth) refl

pub fixed_ended : (w n i : ℕ) → i ≤ 0 → fixed (w - i) (n / 10 ^ i) ≡ fixed w n
fixed_ended w n zero h =
    let all : w - 0 ≡ w = omega arith in
    ap (λ j. fixed j (n / 1)) all ∙ ap (fixed w) (div-one n)
fixed_ended w n (suc i) h = absurd (omega arith)

-- ---- no leading zeros
pub by_one : (f n : ℕ) → n < 10 → digits_by (suc f) n ≡ digit n ∷ []
unfolding digits_by
by_one f n h = rw (lt-ltb n 10 h) refl

pub by_more : (f n : ℕ) → 10 ≤ n → digits_by (suc f) n ≡ digits_by f (n / 10) ++ (digit (n % 10) ∷ [])
unfolding digits_by
by_more f n h = rw (le-ltb n 10 h) refl

pub fewer_digits : (f n : ℕ) → n < 10 ^ suc f → n / 10 < 10 ^ f
fewer_digits f n h = (div-lt_iff_lt-mul {k = 10} {x = n} {y = 10 ^ f} (omega arith)).1 (rw pow-suc at h)

-- a digit more than enough changes nothing: by whether n is one digit
enough_step : (f n : ℕ) → (digits_by (suc f) (n / 10) ≡ digits_by (suc (suc f)) (n / 10)) → (b : Bool) → ltb n 10 ≡ b →
    digits_by (suc (suc f)) n ≡ digits_by (suc (suc (suc f))) n
enough_step f n ih true e = by_one (suc f) n (ltb-true n 10 e) ∙ sym (by_one (suc (suc f)) n (ltb-true n 10 e))
enough_step f n ih false e =
    by_more (suc f) n (ltb-false n 10 e) ∙ ap (λ l. l ++ (digit (n % 10) ∷ [])) ih ∙ sym (by_more (suc (suc f)) n (ltb-false n 10 e))

enough : (f n : ℕ) → n < 10 ^ suc f → digits_by (suc f) n ≡ digits_by (suc (suc f)) n
enough zero n h = by_one 0 n h ∙ sym (by_one 1 n h)
enough (suc f) n h = enough_step f n (enough f (n / 10) (fewer_digits (suc f) n h)) (ltb n 10) refl

pub digits_one : (n : ℕ) → n < 10 → digits n ≡ digit n ∷ []
unfolding digits
digits_one n h = by_one 19 n h

pub digits_more : (n : ℕ) → 10 ≤ n → n < 2 ^ 64 → digits n ≡ digits (n / 10) ++ (digit (n % 10) ∷ [])
unfolding digits
digits_more n h k = by_more 19 n h ∙ ap (λ l. l ++ (digit (n % 10) ∷ [])) (enough 18 (n / 10) (omega arith))

-- as many of the last digits are all of them: by whether n is one digit
all_step : (f n : ℕ) → fixed (length (digits_by f (n / 10))) (n / 10) ≡ digits_by f (n / 10) → (b : Bool) → ltb n 10 ≡ b →
    fixed (length (digits_by (suc f) n)) n ≡ digits_by (suc f) n
unfolding fixed
all_step f n ih true e =
    let one = by_one f n (ltb-true n 10 e) in
    let small : n % 10 ≡ n = mod-eq_of_lt (ltb-true n 10 e) in
    rw (one, small) refl
all_step f n ih false e =
    let front = digits_by f (n / 10) in
    let more = by_more f n (ltb-false n 10 e) in
    let long : length (front ++ (digit (n % 10) ∷ [])) ≡ suc (length front) = length-append front (digit (n % 10) ∷ []) ∙ add-one _ in
    rw (more, long) (ap (λ l. l ++ (digit (n % 10) ∷ [])) ih)

all_by : (f n : ℕ) → fixed (length (digits_by f n)) n ≡ digits_by f n
unfolding digits_by fixed
all_by zero n = refl
all_by (suc f) n = all_step f n (all_by f (n / 10)) (ltb n 10) refl

pub fixed_all : (n : ℕ) → fixed (length (digits n)) n ≡ digits n
unfolding digits
fixed_all n = all_by most_digits n

pub width_one : (n : ℕ) → n < 10 → 1 ≡ length (digits n)
width_one n h = sym (ap length (digits_one n h))

pub width_more : (n w : ℕ) → 10 ≤ n → n < 2 ^ 64 → w ≡ length (digits (n / 10)) → 1 + w ≡ length (digits n)
width_more n w h k e = omega (arith, e, ap length (digits_more n h k), length-append (digits (n / 10)) (digit (n % 10) ∷ []))

pub some_ten : (k : ℕ) → 0 < 10 ^ k
some_ten zero = omega arith
some_ten (suc k) = omega (arith, pow-succ' 10 k, some_ten k)

-- one digit more than its logarithm
pub width_by : (k n : ℕ) → 10 ^ k ≤ n → n < 10 * 10 ^ k → n < 2 ^ 64 → k + 1 ≡ length (digits n)
width_by zero n h l small = width_one n (omega arith)
width_by (suc k) n h l small =
    let ten = pow-succ' 10 k in
    let tenth = width_by k (n / 10) (omega (arith, ten)) (omega (arith, ten)) (omega arith) in
    omega (arith, width_more n (k + 1) (omega (arith, ten, some_ten k)) small tenth)

-- ---- a price
-- a power of ten past 64 bits leaves nothing before the last digits
pub units_none : (p s : ℕ) → p < 2 ^ 64 → 2 ^ 64 ≤ 10 ^ s → 0 ≡ p / 10 ^ s
units_none p s h k = sym (div-eq_of_lt (omega arith))

pub priced_no_point : (s p r : ℕ) → s ≡ 0 → r ≡ p / 10 ^ s → priced s p ≡ digits r
unfolding priced
priced_no_point s p r h e = ap (λ k. digits (p / 10 ^ s) ++ decimals k p) h ∙ append-nil _ ∙ ap digits (sym e)

pub priced_point : (s p r : ℕ) → (s ≡ 0 → ⊥) → r ≡ p / 10 ^ s → priced s p ≡ digits r ++ (point ∷ fixed s p)
unfolding priced
priced_point zero p r h e = absurd (h refl)
priced_point (suc s) p r h e = ap (λ k. digits k ++ (point ∷ fixed (suc s) p)) (sym e)

-- How long a line can be: each column is within its width.
use mathlib.Core.Path.{◌≡◌, refl}
use mathlib.Core.List.{List, [], ◌∷◌, ◌++◌}
use mathlib.Core.Bool.{Bool, true, false, cond}
use Prim.Native.Nat.{ℕ, zero, suc, ◌+◌, ◌/◌, ◌%◌, ◌^◌, ◌≤◌}
use native.Mathlib.Omega.{arith}
use lib.ListN.{length, length-append, length-map}
use lib.Dec.{ltb}
use Rattle.columns.specs.Text.{fixed, digits_by, digits, digit, priced, decimals, timed, text_byte, line_feed, most_digits}
use Rattle.columns.specs.Columns.{Column, number, price, clock, bytes, text, shown, further, rendered}

-- ---- columns

pub length_fixed : (w n : ℕ) → length (fixed w n) ≡ w
unfolding fixed
length_fixed zero n = refl
length_fixed (suc w) n = omega (arith, length-append (fixed w (n / 10)) (digit (n % 10) ∷ []), length_fixed w (n / 10))

cond_at_most : (b : Bool) (f : ℕ) (x y : List ℕ) → length x ≤ f → length y ≤ f → length (cond b x y) ≤ f
cond_at_most true f x y p q = p
cond_at_most false f x y p q = q

by_at_most : (f n : ℕ) → length (digits_by f n) ≤ f
unfolding digits_by
by_at_most zero n = omega arith
by_at_most (suc f) n =
    cond_at_most (ltb n 10) (suc f) (digit n ∷ []) (digits_by f (n / 10) ++ (digit (n % 10) ∷ [])) (omega arith)
    (omega (arith, length-append (digits_by f (n / 10)) (digit (n % 10) ∷ []), by_at_most f (n / 10)))

pub digits_at_most : (n : ℕ) → length (digits n) ≤ most_digits
unfolding digits
digits_at_most n = by_at_most most_digits n

decimals_at_most : (s p : ℕ) → length (decimals s p) ≤ 1 + s
decimals_at_most zero p = omega arith
decimals_at_most (suc s) p = omega (arith, length_fixed (suc s) p)

length_timed : (second nanos : ℕ) → length (timed second nanos) ≡ 18
unfolding timed
length_timed second nanos = simp (length-append, length_fixed)

-- a column takes at most w bytes
pub record Fits (c : Column) (w : ℕ) : Type 0 where
  pub fits : length (shown c) ≤ w

pub price_fits : (s p w : ℕ) → length (digits (p / 10 ^ s)) ≤ w → Fits (price s p) (w + 1 + s)
unfolding priced
price_fits s p w h = record { fits = omega (arith, length-append (digits (p / 10 ^ s)) (decimals s p), h, decimals_at_most s p) }

-- the most that any column of its kind takes
abbrev pub width_of : Column → ℕ
width_of (number n) = most_digits
width_of (price s p) = most_digits + 1 + s
width_of (clock second nanos) = 18
width_of (bytes bs) = length bs
width_of (text bs) = length bs

pub fits_its_width : (c : Column) → Fits c (width_of c)
fits_its_width (number n) = record { fits = digits_at_most n }
fits_its_width (price s p) = price_fits s p most_digits (digits_at_most (p / 10 ^ s))
fits_its_width (clock second nanos) = record { fits = omega (arith, length_timed second nanos) }
fits_its_width (bytes bs) = record { fits = omega arith }
fits_its_width (text bs) = record { fits = omega (arith, length-map bs text_byte) }

-- ---- lines

-- each column within its width
pub data Within : List Column → List ℕ → Type 0 where
  none : Within [] []
  one : {c : Column} {cs : List Column} {w : ℕ} {ws : List ℕ} → Fits c w → Within cs ws → Within (c ∷ cs) (w ∷ ws)

pub within_append : {cs ds : List Column} {ws vs : List ℕ} → Within cs ws → Within ds vs → Within (cs ++ ds) (ws ++ vs)
within_append none k = k
within_append (one h j) k = one h (within_append j k)

-- the columns' widths, and a byte after each
abbrev pub total : List ℕ → ℕ
total [] = 0
total (w ∷ ws) = w + 1 + total ws

further_within : {cs : List Column} {ws : List ℕ} → Within cs ws → length (further cs) ≤ total ws
further_within none = omega arith
further_within (one {c} {cs} {w} {ws} h k) = omega (arith, length-append (shown c) (further cs), h.fits, further_within k)

pub rendered_within : {c : Column} {cs : List Column} {w : ℕ} {ws : List ℕ} → Fits c w → Within cs ws → length (rendered (c ∷ cs)) ≤ total (w ∷ ws)
unfolding rendered
rendered_within {c} {cs} {w} {ws} h k =
    omega (arith, length-append (shown c ++ further cs) (line_feed ∷ []), length-append (shown c) (further cs), h.fits, further_within k)

-- any line, by the widths of its columns' kinds
abbrev pub widths : List Column → List ℕ
widths [] = []
widths (c ∷ cs) = width_of c ∷ widths cs

within_widths : (cs : List Column) → Within cs (widths cs)
within_widths [] = none
within_widths (c ∷ cs) = one (fits_its_width c) (within_widths cs)

pub line_within_widths : (cs : List Column) → length (rendered cs) ≤ 1 + total (widths cs)
unfolding rendered
line_within_widths [] = omega arith
line_within_widths (c ∷ cs) = omega (arith, rendered_within (fits_its_width c) (within_widths cs))

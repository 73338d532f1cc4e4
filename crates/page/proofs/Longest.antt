-- Every column has a largest width, and one line of each type reaches all of them: 111 bytes for an add, 93 for a cross, 34 for a row of levels.
use Rattle.std.proofs.Common.{◌≡◌, ℕ, zero, suc, ◌+◌, ◌-◌, ◌*◌, ◌/◌, ◌%◌, ◌^◌, ◌<◌, ◌≤◌, Bool, true, false, ltb, List, [], ◌∷◌, length, take, replicate, refl, subst, le_trans, div-lt_iff_lt-mul, arith, length-append, length-take, pow-add, ltb-false, ltb-true}
use native.Mathlib.Nat.{one-le-pow}
use Rattle.wire.specs.Bytes.{plain_room}
use Rattle.wire.specs.Message.{fields_of}
use Rattle.wire.specs.RoundTrip.{InRange}
use Rattle.wire.specs.declared.Head.{Head}
use Rattle.wire.specs.declared.Message.TheVariants.{Add, Cross}
use Rattle.symbols.specs.State.{name_bytes}
use Rattle.symbols.specs.Registering.{most_scale}
use Rattle.symbols.specs.declared.registering.Listing.{Listing}
use Rattle.orders.specs.State.{orders_each}
use Rattle.orders.specs.Passing.{most_shares}
use Rattle.orders.specs.declared.rows.LevelRow.{LevelRow}
use Rattle.columns.specs.Text.{fixed, digit, digits_by, digits, most_digits, priced, timed}
use Rattle.columns.specs.Columns.{number, price, clock, bytes, text, rendered}
use Rattle.page.specs.Columns.{name_of, firm_bytes, columns_of}
use Rattle.page.specs.Printing.{last_second}
use Rattle.page.specs.Printout.{letter}
use Rattle.page.specs.Levels.{letter_d, side_byte, row_columns, row_text}
use Rattle.page.specs.Marked.{ascii}
use Rattle.columns.proofs.Digits.{by_one, by_more, fewer_digits}
use Rattle.columns.proofs.Lengths.{Fits, price_fits, fits_its_width, Within, none, one, within_append, rendered_within, line_within_widths}

fits_step : (f k n : ℕ) → n < 10 ^ suc k → ((j : ℕ) → n / 10 < 10 ^ suc j → length (digits_by f (n / 10)) ≤ suc j) → (b : Bool) → ltb n 10 ≡ b →
    length (digits_by (suc f) n) ≤ suc k
fits_step f k n h ih true e = rw (by_one f n (ltb-true n 10 e)) (omega arith)
fits_step f zero n h ih false e = absurd (omega (arith, ltb-false n 10 e, h))
fits_step f (suc k) n h ih false e =
    rw (by_more f n (ltb-false n 10 e)) (omega (arith, length-append (digits_by f (n / 10)) (digit (n % 10) ∷ []), ih k (fewer_digits (suc k) n h)))

by_fits : (f k n : ℕ) → n < 10 ^ suc k → length (digits_by f n) ≤ suc k
unfolding digits_by
by_fits zero k n h = omega arith
by_fits (suc f) k n h = fits_step f k n h (λ j g. by_fits f j (n / 10) g) (ltb n 10) refl

digits_fit : (k n : ℕ) → n < 10 ^ suc k → length (digits n) ≤ suc k
unfolding digits
digits_fit k n h = by_fits most_digits k n h

number_within : (k n : ℕ) → n < 10 ^ suc k → Fits (number n) (suc k)
number_within k n h = record { fits = digits_fit k n h }

-- ten digits and a point: the digits before it are as many fewer as the scale
price_within : (s p : ℕ) → s ≤ most_scale → p < 10 ^ 10 → Fits (price s p) 11
price_within s p h k =
    let digits_in_all : suc (9 - s) + s ≡ 10 = omega arith in
    let below : p < 10 ^ suc (9 - s) * 10 ^ s = rw (← (pow-add 10 (suc (9 - s)) s), digits_in_all) k in
    let positive : 0 < 10 ^ s = one-le-pow s 10 (omega arith) in
    let units : p / 10 ^ s < 10 ^ suc (9 - s) = (div-lt_iff_lt-mul {k = 10 ^ s} {x = p} {y = 10 ^ suc (9 - s)} positive).1 below in
    let width : suc (9 - s) + 1 + s ≡ 11 = omega arith in
    subst (Fits (price s p)) width (price_fits s p (suc (9 - s)) (digits_fit (9 - s) (p / 10 ^ s) units))

firm_fits : (plain : List ℕ) → Fits (text (take firm_bytes plain)) firm_bytes
firm_fits plain = record { fits = omega (arith, (fits_its_width (text (take firm_bytes plain))).fits, length-take firm_bytes plain) }

module _ (s : Listing) (h : Head) (plain : List ℕ) (sequence second : ℕ) (name : length (name_of s) ≤ name_bytes) (scale : s.scale ≤ most_scale) (feed : sequence < 2 ^ 32) where
  -- what follows the type in every line
  opening_within : h.number < 2 ^ 32 →
      Within (number sequence ∷ clock second h.nanos ∷ bytes (name_of s) ∷ number h.number ∷ []) (10 ∷ 18 ∷ name_bytes ∷ 10 ∷ [])
  opening_within r =
      one (number_within 9 sequence (omega arith))
      (one (fits_its_width (clock second h.nanos))
      (one (record { fits = name })
      (one (number_within 9 h.number (omega arith)) none)))

  pub add_line_at_most : (order p volume side : ℕ) → InRange (fields_of (Add h order p volume side)) →
      length (rendered (columns_of s (Add h order p volume side) plain sequence second)) ≤ 111
  add_line_at_most order p volume side r =
      rendered_within (number_within 2 100 (omega arith))
      (within_append (opening_within r.number)
      (one (number_within 19 order (omega (arith, r.order)))
      (one (price_within s.scale p scale (omega (arith, r.price)))
      (one (number_within 9 volume (omega (arith, r.volume)))
      (one (fits_its_width (bytes (side ∷ [])))
      (one (firm_fits plain)
      (one (number_within 0 0 (omega arith)) none)))))))

  pub cross_line_at_most : (cross p volume class : ℕ) → InRange (fields_of (Cross h cross p volume class)) →
      length (rendered (columns_of s (Cross h cross p volume class) plain sequence second)) ≤ 93
  cross_line_at_most cross p volume class r =
      rendered_within (number_within 2 111 (omega arith))
      (within_append (opening_within r.number)
      (one (number_within 9 cross (omega (arith, r.id)))
      (one (price_within s.scale p scale (omega (arith, r.price)))
      (one (number_within 9 volume (omega (arith, r.volume)))
      (one (fits_its_width (text (class ∷ []))) none)))))

-- a row of levels: at one price there are no more than all of a symbol's orders, and no more shares than theirs
pub row_at_most : (buy : Bool) (scale : ℕ) (row : LevelRow) → scale ≤ most_scale → row.price < 2 ^ 32 → row.size ≤ orders_each * most_shares → row.orders ≤ orders_each → length (row_text buy scale row) ≤ 34
unfolding row_text
row_at_most buy scale row s p n k = go row.used
  where
    go : (used : Bool) → length (rendered (letter_d ∷ letter (side_byte buy) ∷ row_columns used scale row)) ≤ 34
    go true =
        rendered_within (fits_its_width letter_d)
        (one (fits_its_width (letter (side_byte buy)))
        (one (price_within scale row.price s (omega (arith, p)))
        (one (number_within 12 row.size (omega (arith, n)))
        (one (number_within 2 row.orders (omega (arith, k))) none))))
    go false = le_trans (line_within_widths (letter_d ∷ letter (side_byte buy) ∷ row_columns false scale row)) (omega arith)

-- ---- these bounds are met
abbrev widest : Listing
widest = record { name = replicate name_bytes 65; len = name_bytes; scale = most_scale }

-- the largest numbers of 32 and of 64 bits
abbrev most : ℕ
most = 4294967295

abbrev most_long : ℕ
most_long = 18446744073709551615

abbrev last : Head
last = record { nanos = 999999999; index = 0; number = most }

pub longest_add : length (rendered (columns_of widest (Add last most_long most most 66) (replicate plain_room 65) most last_second)) ≡ 111
unfolding rendered fixed digits_by digits priced timed
longest_add = refl

pub longest_cross : length (rendered (columns_of widest (Cross last most most most 65) (replicate plain_room 0) most last_second)) ≡ 93
unfolding rendered fixed digits_by digits priced timed
longest_cross = refl

-- all the orders of a symbol at one price, each with the largest volume. A symbol has one such row at most, so twenty rows have fewer than 20 times its bytes
pub longest_row : row_text false most_scale (record { used = true; price = most; size = orders_each * most_shares; orders = orders_each }) ≡ ascii "D,S,4294.967295,1099511627520,256\n"
unfolding row_text rendered fixed digits_by digits priced
longest_row = refl

pub longest_row_has : length (ascii "D,S,4294.967295,1099511627520,256\n") ≡ 34
longest_row_has = refl

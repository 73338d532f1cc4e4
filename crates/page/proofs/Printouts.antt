-- What is printed: each case is one law, and each text has room in a line under construction.
use Rattle.std.specs.Prelude.{Option, Some, None, Result, Ok, Err}
use Rattle.std.proofs.Common.{◌≡◌, ℕ, ◌+◌, ◌<◌, ◌≤◌, Bool, true, false, eqb, List, [], ◌∷◌, ◌++◌, length, refl, le_trans, arith, length-append, eq-eqb, ne_eqb, sym, ap, ◌∙◌}
use Rattle.wire.specs.Outcome.{done, told_by}
use Rattle.wire.specs.Reading.{Read, read_of, answered_as, decoded_as}
use Rattle.wire.specs.Message.{type_of, index_in}
use Rattle.wire.specs.declared.Decoded.{Decoded}
use Rattle.wire.specs.declared.ReadError.{ReadError}
use Rattle.wire.specs.declared.Message.{Message}
use Rattle.markets.specs.declared.Market.{Market}
use Rattle.book.specs.State.{View}
use Rattle.book.specs.Registering.{told_in}
use Rattle.orders.specs.declared.levels.Level.{Level}
use Rattle.book.specs.declared.quote.Quote.{Quote}
use Rattle.columns.specs.Columns.{number, rendered}
use Rattle.columns.specs.Held.{room}
use Rattle.page.specs.Columns.{listing_of, columns_of}
use Rattle.page.specs.Printing.{has_no_line}
use Rattle.page.specs.Printout.{letter_r, letter_e, letter_q, offset_if, refusal, sequence_of, done_text, passed_text, end_text, level_columns, quote_columns, quote_text}
use Rattle.columns.proofs.Lengths.{total, widths, line_within_widths}

-- ---- room
pub refusal_within : (bad : Bool) (answer offset place : ℕ) → length (rendered (letter_r ∷ number answer ∷ number place ∷ offset_if bad offset)) ≤ room
refusal_within true answer offset place = le_trans (line_within_widths (letter_r ∷ number answer ∷ number place ∷ number offset ∷ [])) (omega arith)
refusal_within false answer offset place = le_trans (line_within_widths (letter_r ∷ number answer ∷ number place ∷ [])) (omega arith)

-- the quote at any scale that a byte can hold, with the end before it
quote_within : (scale : ℕ) (x : Quote) (shown : Bool) → scale < 256 → length (rendered (letter_q ∷ quote_columns shown scale x)) + 30 ≤ room
quote_within scale x false h = omega (arith, line_within_widths (letter_q ∷ number x.answer ∷ []))
quote_within scale x true h = omega (arith, line_within_widths (letter_q ∷ (level_columns scale x.bid ++ level_columns scale x.ask)), widths_have_room x.bid x.ask)
  where
    widths_have_room : (bid ask : Option Level) → 31 + total (widths (letter_q ∷ (level_columns scale bid ++ level_columns scale ask))) ≤ room
    widths_have_room None None = omega arith
    widths_have_room None (Some x) = omega arith
    widths_have_room (Some x) None = omega arith
    widths_have_room (Some x) (Some y) = omega arith

pub end_has_room : (answer scale : ℕ) (x : Quote) → scale < 256 → length (end_text answer ++ quote_text scale x) ≤ room
unfolding end_text quote_text
end_has_room answer scale x h =
    let e = line_within_widths (letter_e ∷ number answer ∷ []) in
    let q = quote_within scale x (eqb x.answer 0) h in
    omega (arith, length-append (end_text answer) (quote_text scale x))

-- ---- the quote
pub quote_shown : (scale : ℕ) (x : Quote) → x.answer ≡ 0 → quote_text scale x ≡ rendered (letter_q ∷ (level_columns scale x.bid ++ level_columns scale x.ask))
unfolding quote_text
quote_shown scale x h = rw (eq-eqb _ _ h) refl

pub quote_refused : (scale : ℕ) (x : Quote) → (x.answer ≡ 0 → ⊥) → quote_text scale x ≡ rendered (letter_q ∷ number x.answer ∷ [])
unfolding quote_text
quote_refused scale x h = rw (ne_eqb _ _ h) refl

-- ---- a refusal: with a bad field its offset, and nothing with any other answer
module _ (answer offset place : ℕ) where
  pub refusal_bad_field : answer ≡ 4 → refusal answer offset place ≡ letter_r ∷ number answer ∷ number place ∷ number offset ∷ []
  refusal_bad_field h = rw (eq-eqb _ _ h) refl

  pub refusal_other : (answer ≡ 4 → ⊥) → refusal answer offset place ≡ letter_r ∷ number answer ∷ number place ∷ []
  refusal_other h = rw (ne_eqb _ _ h) refl

-- the offset that reading answers with is the one that the rule tells
pub read_offset : (r : Result Decoded ReadError) → told_by (λ (e : ReadError). (answered_as (Err e)).offset) r ≡ (decoded_as r).offset
read_offset (Ok d) = refl
read_offset (Err e) = refl

-- of what was not read nothing is printed
unread_prints : (v : View) (r : Result Decoded ReadError) (place second : ℕ) → ((d : Decoded) → r ≡ Ok d → ⊥) → done_text v (decoded_as r).outcome (decoded_as r).plain place second ≡ []
unread_prints v (Ok d) place second k = absurd (k d refl)
unread_prints v (Err ReadError.Short) place second k = refl
unread_prints v (Err ReadError.BadSize) place second k = refl
unread_prints v (Err ReadError.BadType) place second k = refl
unread_prints v (Err (ReadError.BadField n)) place second k = refl

module _ (v : View) (m : Message) (plain : List ℕ) (place second : ℕ) where
  no_line_prints : has_no_line (type_of m) ≡ true → done_text v (done m) plain place second ≡ []
  no_line_prints h = rw h refl

  pub line_prints : has_no_line (type_of m) ≡ false → done_text v (done m) plain place second ≡ rendered (columns_of (listing_of (told_in (index_in m) v)) m plain (sequence_of place) second)
  line_prints h = rw h refl

-- ---- a message that was passed over
module _ (market : Market) (v : View) (m : List ℕ) (answer place second : ℕ) where
  pub passed_refused : (answer ≡ 0 → ⊥) → passed_text market (record { view = v; answer = answer }) m place second ≡ rendered (refusal answer (read_of market m).offset place)
  unfolding passed_text
  passed_refused h = rw (ne_eqb _ _ h) refl

  pub passed_done : answer ≡ 0 → passed_text market (record { view = v; answer = answer }) m place second ≡ done_text v (read_of market m).outcome (read_of market m).plain place second
  unfolding passed_text
  passed_done h = rw (eq-eqb _ _ h) refl

  -- a done one, by what was read of it
  module _ (zero : answer ≡ 0) (r : Result Decoded ReadError) (reads : decoded_as r ≡ read_of market m) where
    by_read : passed_text market (record { view = v; answer = answer }) m place second ≡ done_text v (decoded_as r).outcome (decoded_as r).plain place second
    by_read = passed_done zero ∙ ap (λ (d : Read). done_text v d.outcome d.plain place second) (sym reads)

    pub passed_unread : ((d : Decoded) → r ≡ Ok d → ⊥) → passed_text market (record { view = v; answer = answer }) m place second ≡ []
    passed_unread k = by_read ∙ unread_prints v r place second k

    module _ (d : Decoded) (is : r ≡ Ok d) where
      by_message : passed_text market (record { view = v; answer = answer }) m place second ≡ done_text v (done d.message) d.plain place second
      by_message = by_read ∙ ap (λ (x : Result Decoded ReadError). done_text v (decoded_as x).outcome (decoded_as x).plain place second) is

      pub passed_no_line : has_no_line (type_of d.message) ≡ true → passed_text market (record { view = v; answer = answer }) m place second ≡ []
      passed_no_line h = by_message ∙ no_line_prints v d.message d.plain place second h

      pub passed_line : has_no_line (type_of d.message) ≡ false → passed_text market (record { view = v; answer = answer }) m place second ≡ rendered (columns_of (listing_of (told_in (index_in d.message) v)) d.message d.plain (sequence_of place) second)
      passed_line h = by_message ∙ line_prints v d.message d.plain place second h

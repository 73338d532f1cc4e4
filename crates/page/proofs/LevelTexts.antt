-- A row has room for its line at any scale that a byte can hold, so rows have as many rooms as there are of them; and each case of a depth is one law.
use Rattle.std.proofs.Common.{◌≡◌, ℕ, ◌+◌, ◌*◌, ◌<◌, ◌≤◌, Bool, true, false, List, [], ◌∷◌, ◌++◌, length, get_or, take, sym, refl, ap, ◌∙◌, append_assoc, append-nil, le_trans, add-one, arith, length-append, length-take, take-suc, eq-eqb, ne_eqb}
use Rattle.orders.specs.Rows.{no_row}
use Rattle.orders.specs.declared.rows.LevelRow.{LevelRow}
use Rattle.book.specs.declared.depth.Depth.{Depth}
use Rattle.columns.specs.Columns.{number, rendered}
use Rattle.columns.specs.Held.{room}
use Rattle.columns.proofs.Lengths.{line_within_widths}
use Rattle.page.specs.Printout.{letter}
use Rattle.page.specs.Levels.{letter_d, side_byte, row_columns, row_text, rows_text, depth_text}

-- ---- the room
pub row_has_room : (buy : Bool) (scale : ℕ) (row : LevelRow) → scale < 256 → length (row_text buy scale row) ≤ room
unfolding row_text
row_has_room buy scale row h = go row.used
  where
    go : (used : Bool) → length (rendered (letter_d ∷ letter (side_byte buy) ∷ row_columns used scale row)) ≤ room
    go true = le_trans (line_within_widths (letter_d ∷ letter (side_byte buy) ∷ row_columns true scale row)) (omega (arith, h))
    go false = le_trans (line_within_widths (letter_d ∷ letter (side_byte buy) ∷ row_columns false scale row)) (omega arith)

pub refusal_has_room : (answer : ℕ) → length (rendered (letter_d ∷ number answer ∷ [])) ≤ room
refusal_has_room answer = le_trans (line_within_widths (letter_d ∷ number answer ∷ [])) (omega arith)

pub rows_have_room : (buy : Bool) (scale : ℕ) (rows : List LevelRow) → scale < 256 → length (rows_text buy scale rows) ≤ length rows * room
unfolding rows_text
rows_have_room buy scale [] h = omega arith
rows_have_room buy scale (row ∷ rows) h = omega (arith, length-append (row_text buy scale row) (rows_text buy scale rows), row_has_room buy scale row h, rows_have_room buy scale rows h)

pub first_rows_have_room : (buy : Bool) (scale : ℕ) (rows : List LevelRow) (i : ℕ) → scale < 256 → length (rows_text buy scale (take i rows)) ≤ i * room
first_rows_have_room buy scale rows i h = omega (arith, rows_have_room buy scale (take i rows) h, length-take i rows)

-- ---- rows one behind the other
rows_join : (buy : Bool) (scale : ℕ) (rows more : List LevelRow) → rows_text buy scale (rows ++ more) ≡ rows_text buy scale rows ++ rows_text buy scale more
unfolding rows_text
rows_join buy scale [] more = refl
rows_join buy scale (row ∷ rows) more = ap (λ (x : List ℕ). row_text buy scale row ++ x) (rows_join buy scale rows more) ∙ sym (append_assoc (row_text buy scale row) (rows_text buy scale rows) (rows_text buy scale more))

pub one_row_more : (buy : Bool) (scale : ℕ) (rows : List LevelRow) (i : ℕ) → i < length rows → rows_text buy scale (take (i + 1) rows) ≡ rows_text buy scale (take i rows) ++ row_text buy scale (get_or rows i no_row)
unfolding rows_text
one_row_more buy scale rows i h =
    ap (λ (k : ℕ). rows_text buy scale (take k rows)) (add-one i)
    ∙ ap (rows_text buy scale) (take-suc rows i no_row h)
    ∙ rows_join buy scale (take i rows) (get_or rows i no_row ∷ [])
    ∙ ap (λ (x : List ℕ). rows_text buy scale (take i rows) ++ x) (append-nil (row_text buy scale (get_or rows i no_row)))

-- ---- by the answer
pub refused_text : (scale : ℕ) (d : Depth) → (d.answer ≡ 0 → ⊥) → depth_text scale d ≡ rendered (letter_d ∷ number d.answer ∷ [])
unfolding depth_text
refused_text scale d h = rw (ne_eqb _ _ h) refl

pub both_sides_text : (scale : ℕ) (d : Depth) → d.answer ≡ 0 → depth_text scale d ≡ rows_text true scale d.bids ++ rows_text false scale d.asks
unfolding depth_text
both_sides_text scale d h = rw (eq-eqb _ _ h) refl

-- What holds of every row of the table holds of the layout of a known type.
use Rattle.std.specs.Prelude.{Option, Some, None}
use mathlib.Core.Path.{◌≡◌, refl, sym, ap, subst}
use mathlib.Core.List.{List, [], ◌∷◌}
use mathlib.Core.Bool.{Bool, true, false, cond, ◌||◌}
use Prim.Native.Nat.{ℕ, ◌-◌}
use native.Mathlib.Omega.{arith}
use mathlib.Core.Logic.{inl, inr}
use lib.Dec.{T, eqb}
use Rattle.wire.specs.Bytes.{IsField}
use borrow.Author.Tests.{eqb-true}
use Rattle.wire.specs.declared.table.Layout.{Layout}
use Rattle.wire.specs.Table.{Row, table, layout_of, find, shape_of}
use Rattle.wire.specs.Fields.{Sane, Whole}

abbrev pub AllRows : (ℕ → Layout → Type 0) → List Row → Type 0
AllRows P [] = Unit {0}
AllRows P (r ∷ rs) = P r.number (layout_of r) × AllRows P rs

found_row : (P : ℕ → Layout → Type 0) (n : ℕ) (rs : List Row) (l : Layout) → AllRows P rs → find n rs ≡ Some l → P n l
found_row P n [] l h e = let z : ◌≡◌ {A = ℕ} 0 1 = cc in absurd (omega arith)
found_row P n (r ∷ rs) l h e = go (eqb n r.number) refl (found_row P n rs l h.1) e
  where
    go : (b : Bool) → eqb n r.number ≡ b → (find n rs ≡ Some l → P n l) → cond b (Some (layout_of r)) (find n rs) ≡ Some l → P n l
    go true t k q = subst (λ (x : Layout). P n x) (cc) (subst (λ (x : ℕ). P x (layout_of r)) (sym (eqb-true n r.number t)) h.0)
    go false t k q = k q

pub by_rows : (P : ℕ → Layout → Type 0) → AllRows P table → (n : ℕ) (l : Layout) → shape_of n ≡ Some l → P n l
unfolding shape_of
by_rows P h n l e = found_row P n table l h e

table_sane : AllRows (λ n l. Sane l) table
table_sane = (omega arith, (omega arith, (omega arith, (omega arith, (omega arith, (omega arith, (omega arith, (omega arith, (omega arith, (omega arith, (omega arith, (omega arith, (omega arith, tt)))))))))))))

pub layout_sane : (n : ℕ) (l : Layout) → shape_of n ≡ Some l → Sane l
layout_sane = by_rows (λ n l. Sane l) table_sane

-- ---- each number of a known type is there at its full width, or it is not there: by computation
abbrev is_field : ℕ → ℕ → Bool
is_field w n = eqb n w || eqb n 0

field_by : (w n : ℕ) → T (is_field w n) → IsField w n
field_by w n t = go (eqb n w) (eqb n 0) refl refl t
  where
    go : (full none : Bool) → eqb n w ≡ full → eqb n 0 ≡ none → T (full || none) → IsField w n
    go true none p q t = inl (eqb-true n w p)
    go false true p q t = inr (eqb-true n 0 q)
    go false false p q t = absurd t

row_whole : (l : Layout) → T (is_field 4 (l.form - 4)) → T (is_field 8 (l.fresh - l.order)) → T (is_field 8 (l.id - l.fresh)) → T (is_field 4 (l.price - l.id)) → T (is_field 4 (l.volume - l.price)) → T (is_field 4 (l.flag - l.volume)) → T (is_field 1 (l.side - l.flag)) → T (is_field 1 (l.letter - l.side)) → T (is_field 1 (l.gap - l.letter)) → T (is_field 1 (l.plain - l.gap)) → T (is_field 1 (l.size - l.pad)) → Whole l
row_whole l a b c d e f g h i j k = record {
  seconds = field_by 4 _ a;
  order = field_by 8 _ b;
  fresh = field_by 8 _ c;
  id = field_by 4 _ d;
  price = field_by 4 _ e;
  volume = field_by 4 _ f;
  flag = field_by 1 _ g;
  side = field_by 1 _ h;
  letter = field_by 1 _ i;
  gap = field_by 1 _ j;
  pad = field_by 1 _ k;
}

table_whole : AllRows (λ n l. Whole l) table
table_whole = (row_whole _ tt tt tt tt tt tt tt tt tt tt tt, (row_whole _ tt tt tt tt tt tt tt tt tt tt tt, (row_whole _ tt tt tt tt tt tt tt tt tt tt tt, (row_whole _ tt tt tt tt tt tt tt tt tt tt tt, (row_whole _ tt tt tt tt tt tt tt tt tt tt tt, (row_whole _ tt tt tt tt tt tt tt tt tt tt tt, (row_whole _ tt tt tt tt tt tt tt tt tt tt tt, (row_whole _ tt tt tt tt tt tt tt tt tt tt tt, (row_whole _ tt tt tt tt tt tt tt tt tt tt tt, (row_whole _ tt tt tt tt tt tt tt tt tt tt tt, (row_whole _ tt tt tt tt tt tt tt tt tt tt tt, (row_whole _ tt tt tt tt tt tt tt tt tt tt tt, (row_whole _ tt tt tt tt tt tt tt tt tt tt tt, tt)))))))))))))

pub layout_whole : (n : ℕ) (l : Layout) → shape_of n ≡ Some l → Whole l
layout_whole = by_rows (λ n l. Whole l) table_whole

-- ---- and what holds of a type's own row holds of its layout
abbrev pub layout_in : Option Layout → Layout → Layout
layout_in None d = d
layout_in (Some l) d = l

pub at_row : (P : Layout → Type 0) (n : ℕ) (l : Layout) → shape_of n ≡ Some l → P (layout_in (shape_of n) l) → P l
at_row P n l e p = subst P (ap (λ (x : Option Layout). layout_in x l) e) p

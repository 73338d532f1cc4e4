-- A message's byte array is its own bytes again, without the zeros that stand behind them once it is read.
use mathlib.Core.Path.{◌≡◌, sym, ap, ◌∙◌}
use mathlib.Core.List.{List, [], ◌∷◌}
use Prim.Native.Nat.{ℕ, zero, suc, ◌+◌, ◌-◌, ◌≤◌}
use native.Mathlib.Nat.{add-zero}
use native.Mathlib.Omega.{arith}
use lib.ListN.{length, get_or}
use lib.Seq.{slice, slice-cons, slice_empty, length-slice, take_at}
use Rattle.wire.specs.Bytes.{padded_plain}
use Rattle.wire.specs.Fields.{Sane, fields_at, array_at, array_of, fault_of}
use Rattle.wire.specs.declared.table.Layout.{Layout}
use Rattle.wire.specs.declared.fields.Fields.{Fields}
use Rattle.markets.specs.declared.Market.{Market}
use Rattle.wire.proofs.Checks.{own_fault}

-- the bytes of an array that was read are its own again, without the zeros behind them
pub array_again : (s : List ℕ) (l : Layout) → Sane l → l.size ≤ length s → array_of l (padded_plain (array_at s l)) ≡ array_at s l
array_again s l sane there = take_at (array_at s l) _ (l.pad - l.plain) (length-slice l.plain l.pad s (omega (arith, sane.size₀, there)))

-- so the bad field of what was read is that of the bytes
pub fault_read : (market : Market) (s : List ℕ) (l : Layout) → Sane l → l.size ≤ length s → (f : Fields) (plain : List ℕ) → f ≡ fields_at s l → plain ≡ padded_plain (array_at s l)
    → fault_of market l f plain ≡ fault_of market l (fields_at s l) (array_at s l)
fault_read market s l sane there f plain fields array = sym (own_fault market l sane f plain) ∙ (λ i. fault_of market l (fields i) (array_of l (array i))) ∙ ap (fault_of market l (fields_at s l)) (array_again s l sane there)

-- ---- bytes written out: w of them, from the one j places on from a
unfoldable pub spread : List ℕ → ℕ → ℕ → ℕ → List ℕ
spread s a j zero = []
spread s a j (suc w) = get_or s (a + j) 0 ∷ spread s a (j + 1) w

slice_spread : (s : List ℕ) (a e w j : ℕ) → a + j + w ≡ e → e ≤ length s → slice (a + j) e s ≡ spread s a j w
unfolding spread
slice_spread s a e zero j p k = let q : a + j ≡ e = omega (arith, p) in rw q (slice_empty e s)
slice_spread s a e (suc w) j p k =
    let next : suc (a + j) ≡ a + (j + 1) = omega arith in
    slice-cons (a + j) e s 0 (omega (arith, p)) k ∙ ap (λ (l : List ℕ). get_or s (a + j) 0 ∷ l) (rw next (slice_spread s a e w (j + 1) (omega (arith, p)) k))

pub written_out : (s : List ℕ) (a e w : ℕ) → e - a ≡ suc w → e ≤ length s → slice a e s ≡ get_or s a 0 ∷ spread s a 1 w
unfolding spread
written_out s a e w p k = (rw add-zero at (slice_spread s a e (suc w) 0 (omega (arith, p)) k))

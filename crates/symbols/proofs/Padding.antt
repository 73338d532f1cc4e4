-- A name padded with zeros is read back by its length, since its bytes stand first.
use mathlib.Core.Bool.{Bool, true, false}
use mathlib.Core.List.{List, ◌++◌}
use mathlib.Core.Path.{◌≡◌, refl, sym, ap, ◌∙◌}
use Prim.Native.Nat.{ℕ, ◌+◌, ◌-◌, ◌<◌, ◌≤◌}
use native.Mathlib.Omega.{arith}
use borrow.Author.Tests.{ltb-true, ltb-false}
use lib.Dec.{ltb}
use lib.ListN.{length, get_or, take, drop, replicate, length-append, length-drop, get_or-append, get_or-eq_default}
use lib.Seq.{get_or-take, ext_get_or, length-take-le, get_or-append_right, get_or-drop}
use Rattle.places.proofs.Shelves.{get_or_replicated}
use Rattle.places.proofs.Tables.{length_tabulate, get_d_tabulate, is_tabulated}
use Rattle.symbols.specs.State.{name_bytes, padded_name}

length_padded : (name : List ℕ) → length (padded_name name) ≡ name_bytes
unfolding padded_name
length_padded name = length_tabulate name_bytes _

padded_at : (name : List ℕ) (i : ℕ) → i < name_bytes → get_or (padded_name name) i 0 ≡ get_or name i 0
unfolding padded_name
padded_at name i h = get_d_tabulate name_bytes _ i 0 h

pub take_padded : (name : List ℕ) → length name ≤ name_bytes → take (length name) (padded_name name) ≡ name
take_padded name h =
    let e : length (take (length name) (padded_name name)) ≡ length name = length-take-le (length name) (padded_name name) (rw (length_padded name) h) in
    ext_get_or 0 (take (length name) (padded_name name)) name e
    (λ i g. let below : i < length name = (rw e at g) in get_or-take (length name) (padded_name name) i 0 below ∙ padded_at name i (omega arith))

-- eleven bytes that are the name's, and zero where it has none, are the padded name
is_padded : (name a : List ℕ) → length a ≡ name_bytes → ((i : ℕ) → i < name_bytes → get_or a i 0 ≡ get_or name i 0) → a ≡ padded_name name
unfolding padded_name
is_padded name a e p = is_tabulated name_bytes _ a 0 e p

-- the name written over the first of eleven zeros
pub padded_over_zeros : (name : List ℕ) → length name ≤ name_bytes → name ++ drop (length name) (replicate name_bytes 0) ≡ padded_name name
padded_over_zeros name h = is_padded name _ (length-append name (drop (length name) (replicate name_bytes 0)) ∙ ap (λ (n : ℕ). length name + n) (length-drop (length name) (replicate name_bytes 0)) ∙ omega (arith, h)) (λ i g. go i (ltb i (length name)) refl)
  where
    go : (i : ℕ) (t : Bool) → ltb i (length name) ≡ t → get_or (name ++ drop (length name) (replicate name_bytes 0)) i 0 ≡ get_or name i 0
    go i true e = get_or-append name (drop (length name) (replicate name_bytes 0)) 0 i (ltb-true i (length name) e)
    go i false e =
        let past : length name ≤ i = ltb-false i (length name) e in
        get_or-append_right name (drop (length name) (replicate name_bytes 0)) i 0 past
        ∙ get_or-drop (length name) (replicate name_bytes 0) (i - length name) 0
        ∙ get_or_replicated 0 name_bytes (length name + (i - length name))
        ∙ sym (get_or-eq_default name 0 past)

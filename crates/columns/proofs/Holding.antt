-- A line holds its first bytes as far as there is room, so adding a text and then another is adding both.
use mathlib.Core.Path.{◌≡◌, refl, ap, sym, ◌∙◌}
use mathlib.Core.List.{List, [], ◌∷◌, ◌++◌, append_assoc, append-nil, map, map-append}
use Prim.Native.Nat.{ℕ, zero, suc, ◌+◌, ◌-◌, ◌≤◌, ◌<◌}
use native.Mathlib.Numerals.{add-one}
use native.Mathlib.Omega.{arith}
use lib.ListN.{length, take, get_or, set, length-append, length-take, replicate, length-replicate, length-set}
use lib.Seq.{take-suc, take_all, take-append-le, take-suc-set, length-take-le, set-append_seam}
use Rattle.columns.specs.declared.Line.TheInside.{Inside}
use Rattle.columns.specs.Held.{room, held, clip, line_of, IsLine, HoldsText, Adds}

-- ---- one byte
-- a full line stays, and the byte is clipped
pub stays : (bs : List ℕ) (n b : ℕ) → length bs ≡ room → room ≤ n → Adds (take n bs) (b ∷ []) (take n bs)
unfolding clip
stays bs n b e k =
    let all : take n bs ≡ bs = take_all n bs (omega arith) in
    record { adds = rw all (sym (take-append-le room bs (b ∷ []) (omega arith) ∙ take_all room bs (omega arith))) }

-- a line with room takes it after what it holds
pub stored : (bs : List ℕ) (n b : ℕ) → length bs ≡ room → n < room → Adds (take n bs) (b ∷ []) (take (n + 1) (set bs n b))
unfolding clip
stored bs n b e h =
    let long : length (take n bs) ≡ n = length-take-le n bs (omega arith) in
    record { adds = rw (add-one, take-suc-set bs n b (omega arith)) (sym (take_all room (take n bs ++ (b ∷ [])) (omega (arith, length-append (take n bs) (b ∷ []))))) }

-- the byte takes the place of a zero, and zeros stand behind it
seam : (xs : List ℕ) (b : ℕ) → length xs < room → set (xs ++ replicate (room - length xs) 0) (length xs) b ≡ (xs ++ (b ∷ [])) ++ replicate (room - (length xs + 1)) 0
seam xs b h =
    let one : room - length xs ≡ suc (room - (length xs + 1)) = omega arith in
    ap (λ k. set (xs ++ replicate k 0) (length xs) b) one
    ∙ set-append_seam xs 0 (replicate (room - (length xs + 1)) 0) b
    ∙ sym (append_assoc xs (b ∷ []) (replicate (room - (length xs + 1)) 0))

with_length : List ℕ → ℕ → Inside
with_length xs n = record { bytes = xs ++ replicate (room - n) 0; len = n }

pub grows : (bs : List ℕ) (n b : ℕ) → n < room → IsLine (record { bytes = bs; len = n }) → IsLine (record { bytes = set bs n b; len = n + 1 })
unfolding with_length
grows bs n b h is_line =
    let whole : bs ≡ take n bs ++ replicate (room - length (take n bs)) 0 = ap (λ l. l.bytes) is_line.1 in
    let long : n ≡ length (take n bs) = ap (λ l. l.len) is_line.1 in
    let all : length bs ≡ room = omega (arith, ap length whole, length-append (take n bs) (replicate (room - length (take n bs)) 0), length-replicate {A = ℕ} (room - length (take n bs)) 0) in
    let now : take (n + 1) (set bs n b) ≡ take n bs ++ (b ∷ []) = rw add-one (take-suc-set bs n b (omega arith)) in
    let longer : n + 1 ≡ length (take n bs ++ (b ∷ [])) = omega (arith, length-append (take n bs) (b ∷ [])) in
    let bytes : set bs n b ≡ (take n bs ++ (b ∷ [])) ++ replicate (room - (n + 1)) 0 =
    ap (λ v. set v n b) whole
    ∙ ap (λ k. set (take n bs ++ replicate (room - length (take n bs)) 0) k b) long
    ∙ seam (take n bs) b (omega (arith, long))
    ∙ ap (λ k. (take n bs ++ (b ∷ [])) ++ replicate (room - (k + 1)) 0) (sym long) in
    (omega arith, ap (λ v. record { bytes = v; len = n + 1 }) bytes ∙ ap (with_length (take n bs ++ (b ∷ []))) longer ∙ ap line_of (sym now))

-- ---- a text after a text
take_of_take : (k : ℕ) (a b : List ℕ) → take k (take k a ++ b) ≡ take k (a ++ b)
take_of_take zero a b = refl
take_of_take (suc k) [] b = refl
take_of_take (suc k) (x ∷ a) b = ap (λ l. x ∷ l) (take_of_take k a b)

clip_of_clip : (a b : List ℕ) → clip (clip a ++ b) ≡ clip (a ++ b)
unfolding clip
clip_of_clip a b = take_of_take room a b

pub held_nothing : (bs : List ℕ) (n : ℕ) → n ≤ room → Adds (take n bs) [] (take n bs)
unfolding clip
held_nothing bs n h = record { adds = rw append-nil (sym (take_all room (take n bs) (omega (arith, length-take n bs)))) }

pub adds_then : {a b c x y : List ℕ} → Adds a x b → Adds b y c → Adds a (x ++ y) c
adds_then {a} {b} {c} {x} {y} p q =
    record { adds = q.adds ∙ ap (λ l. clip (l ++ y)) p.adds ∙ clip_of_clip (a ++ x) y ∙ ap clip (append_assoc a x y) }

pub adds_last : {a b x : List ℕ} → Adds a x b → Adds a (x ++ []) b
adds_last {a} {b} {x} p = rw (append-nil x) p

pub holds_nothing : {a : List ℕ} → a ≡ [] → HoldsText [] a
unfolding clip
holds_nothing e = record { holds = e }

pub holds_first : {x a b : List ℕ} → a ≡ [] → Adds a x b → HoldsText x b
holds_first {x} {a} {b} e p = record { holds = p.adds ∙ ap (λ l. clip (l ++ x)) e }

pub holds_then : {x y a b : List ℕ} → HoldsText x a → Adds a y b → HoldsText (x ++ y) b
holds_then {x} {y} {a} {b} p q = record { holds = q.adds ∙ ap (λ l. clip (l ++ y)) p.holds ∙ clip_of_clip x y }

-- ---- a line that is added to byte by byte: r has its room, and adds x to l so far
pub record Grown (l x : List ℕ) (r : Inside) : Type 0 where
  pub roomy : length r.bytes ≡ room
  pub so_far : Adds l x (held r)

pub grown_stays : {l x : List ℕ} {r : Inside} (b : ℕ) → Grown l x r → room ≤ r.len → Grown l (x ++ (b ∷ [])) r
grown_stays {l} {x} {r} b g h = record { roomy = g.roomy; so_far = adds_then g.so_far (stays r.bytes r.len b g.roomy h) }

pub grown_stored : {l x : List ℕ} {r : Inside} (b : ℕ) → Grown l x r → r.len < room → Grown l (x ++ (b ∷ [])) (record { bytes = set r.bytes r.len b; len = r.len + 1 })
grown_stored {l} {x} {r} b g h = record { roomy = length-set r.bytes r.len b ∙ g.roomy; so_far = adds_then g.so_far (stored r.bytes r.len b g.roomy h) }

-- a text that has room is held to its end
pub held_all : {x r : List ℕ} → length x ≤ room → HoldsText x r → r ≡ x
unfolding clip
held_all {x} {r} h p = p.holds ∙ take_all room x h

-- ---- the first bytes of a text as a rule shows them, and one more
pub one_more_shown : (rule : ℕ → ℕ) (s : List ℕ) (i b : ℕ) → i < length s → b ≡ rule (get_or s i 0) → map rule (take (i + 1) s) ≡ map rule (take i s) ++ (b ∷ [])
one_more_shown rule s i b h e =
    ap (map rule) (ap (λ k. take k s) (add-one i) ∙ take-suc s i 0 h)
    ∙ map-append rule (take i s) (get_or s i 0 ∷ [])
    ∙ ap (λ k. map rule (take i s) ++ (k ∷ [])) (sym e)

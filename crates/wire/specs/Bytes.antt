-- Numbers as bytes, least significant first, at every width; and what a store of some bytes leaves.
use Rattle.std.specs.Prelude.{ℕ, zero, suc, ◌≤◌, ◌+◌, ◌*◌, ◌-◌, ◌/◌, ◌%◌, List, [], ◌∷◌, ◌++◌, length, take, drop, replicate, ◌≡◌, ◌⊎◌}
use Rattle.std.proofs.Math.Seq.{slice}

-- the number that some bytes are
unfoldable pub value : List ℕ → ℕ
value [] = 0
value (b ∷ bs) = b + 256 * value bs

-- a number as w bytes
unfoldable pub little_endian : ℕ → ℕ → List ℕ
little_endian zero v = []
little_endian (suc w) v = (v % 256) ∷ little_endian w (v / 256)

-- the number that stands from a up to e
abbrev pub value_at : List ℕ → ℕ → ℕ → ℕ
value_at s a e = value (slice a e s)

-- a field of w bytes is there at its full width, or it is not there
abbrev pub IsField : ℕ → ℕ → Type 0
IsField w n = (n ≡ w) ⊎ (n ≡ 0)

-- s with the bytes d in the place of those from a up to e
abbrev pub splice : List ℕ → ℕ → ℕ → List ℕ → List ℕ
splice s a e d = take a s ++ d ++ drop e s

-- the longest byte array of a message, and a shorter one with zeros after it
abbrev pub plain_room : ℕ
plain_room = 53

abbrev pub padded_plain : List ℕ → List ℕ
padded_plain d = d ++ replicate (plain_room - length d) 0

-- ---- fields one after the other: each starts where the one before it ended

-- the ends rise from a, and stay within n
abbrev pub Rising : ℕ → List ℕ → ℕ → Type 0
Rising a [] n = Unit {0}
Rising a (e ∷ es) n = (a ≤ e) × (e ≤ n) × Rising e es n

-- the numbers v as bytes, from a on, each up to its end
abbrev pub bytes_of : ℕ → List ℕ → List ℕ → List ℕ
bytes_of a [] v = []
bytes_of a (e ∷ es) [] = []
bytes_of a (e ∷ es) (x ∷ v) = little_endian (e - a) x ++ bytes_of e es v

-- the numbers in s, from a on, each up to its end
abbrev pub values_at : ℕ → List ℕ → List ℕ → List ℕ
values_at a [] s = []
values_at a (e ∷ es) s = value_at s a e ∷ values_at e es s

-- the numbers v stored in out, from a on, each up to its end
abbrev pub stored : ℕ → List ℕ → List ℕ → List ℕ → List ℕ
stored a [] v out = out
stored a (e ∷ es) [] out = out
stored a (e ∷ es) (x ∷ v) out = stored e es v (splice out a e (little_endian (e - a) x))

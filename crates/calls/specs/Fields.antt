-- The fields of a call, from the front of what is left of it.
use Rattle.std.specs.Prelude.{◌≡◌, ℕ, List, Option, Some, None, MatchOption, option_and_then, option_map, nat_lt, if◌then◌else◌, take, drop, length, slice_index}
use Rattle.std.specs.Borrow.{Bor}
use Rattle.std.specs.Int.{from_le_bytes, w16}
use Rattle.markets.specs.declared.Market.{Market}
use Rattle.markets.specs.Numbers.{named_of}

-- what stands at the front of the bytes, and what follows it: lent, and the same as the rule says
abbrev pub Reads : {A : Type 0} → (List ℕ → Option (A × List ℕ)) → List ℕ → Option (A × Bor (List ℕ)) → Type 0
Reads rule xs r = MatchOption r (rule xs ≡ None) (λ p. rule xs ≡ Some (p.0, p.1.now))

-- so many bytes; none where there are fewer
abbrev pub bytes_at : ℕ → List ℕ → Option (List ℕ × List ℕ)
bytes_at n xs = if nat_lt (length xs) n then None else Some (take n xs, drop n xs)

-- a number of so many bytes
abbrev pub number_at : ℕ → (List ℕ → ℕ) → List ℕ → Option (ℕ × List ℕ)
number_at n value xs = if nat_lt (length xs) n then None else Some (value (take n xs), drop n xs)

-- a market, by the one byte of its Market ID
abbrev pub market_at : List ℕ → Option (Market × List ℕ)
market_at xs = if nat_lt (length xs) 1 then None else option_map (λ market. (market, drop 1 xs)) (named_of (slice_index xs 0))

-- a room is a number of two bytes, of at most so much
abbrev pub room_at : ℕ → List ℕ → Option (ℕ × List ℕ)
room_at most xs = option_and_then (λ p. if nat_lt most p.0 then None else Some p) (number_at 2 (from_le_bytes w16) xs)

-- bytes with their number before them, in two bytes
abbrev pub counted_at : List ℕ → Option (List ℕ × List ℕ)
counted_at xs = option_and_then (λ p. bytes_at p.0 p.1) (number_at 2 (from_le_bytes w16) xs)

-- the same of bytes
abbrev pub ReadsBytes : (List ℕ → Option (List ℕ × List ℕ)) → List ℕ → Option (Bor (List ℕ) × Bor (List ℕ)) → Type 0
ReadsBytes rule xs r = MatchOption r (rule xs ≡ None) (λ p. rule xs ≡ Some (p.0.now, p.1.now))

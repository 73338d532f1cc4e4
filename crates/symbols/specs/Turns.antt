-- The number in turn, stale and the mark: document 01, "The book" and "The trade record". Which numbers refuse a message stands in `feed`.
use Rattle.std.specs.Prelude.{Bool, true, false, cond, ℕ, ◌+◌, ltb, eqb}
use Rattle.std.proofs.Math.Option.{Option, none, some}
use Rattle.feed.specs.Reader.{fits, Ruling, unchanged, made_stale, applied, ruled}
use Rattle.symbols.specs.State.{numbers, Entry}
use Rattle.symbols.specs.declared.Place.{Place}
use Rattle.symbols.specs.declared.Standing.{Standing}

-- ---- what becomes of a symbol
-- the same entry, standing otherwise
abbrev pub standing_at : Standing → Entry → Entry
standing_at s e = record { index = e.index; name = e.name; len = e.len; scale = e.scale; standing = s }

-- stale, and its record without the mark
abbrev pub staled : Standing → Standing
staled s = record { expected = s.expected; stale = true; whole = false }

-- a number on; the mark goes where the record lost it
abbrev pub counted : Bool → Standing → Standing
counted lost s = record { expected = s.expected + 1; stale = s.stale; whole = cond lost false s.whole }

-- a clear: not stale, and the number given is the one in turn. The mark goes where that is another than was expected
abbrev pub restarted : ℕ → Standing → Standing
restarted next s = record { expected = next; stale = false; whole = cond (eqb next s.expected) s.whole false }

-- ---- what the calls of this crate add to that
-- past the last number that a message can carry there is none to count
abbrev pub counted_if : Bool → Standing → Standing
counted_if lost s = cond (ltb s.expected numbers) (counted lost s) s

-- a place with another standing
abbrev pub restanding : Place → Standing → Place
restanding p s = record { used = p.used; index = p.index; name = p.name; len = p.len; scale = p.scale; standing = s }

-- where a symbol stands; an empty place counts as stale, and its record as not whole
abbrev pub no_standing : Standing
no_standing = record { expected = 0; stale = true; whole = false }

unfoldable pub standing_of : Option Entry → Standing
standing_of none = no_standing
standing_of (some e) = e.standing

-- the answer to a number before anything is asked of the orders: 8, 6, 7, or 0 in turn
abbrev pub answer_in : {O : Type 0} → Ruling O → ℕ
answer_in (unchanged a) = a
answer_in (made_stale a) = a
answer_in (applied o) = 0

abbrev pub turn_answer : Bool → Bool → Bool → ℕ
turn_answer stale below above = answer_in (ruled stale below above (fits (tt {0})))

-- at a place; 5 where nobody is registered
unfoldable pub turn_at : Option Entry → ℕ → ℕ
turn_at none n = 5
turn_at (some e) n = turn_answer e.standing.stale (ltb n e.standing.expected) (ltb e.standing.expected n)

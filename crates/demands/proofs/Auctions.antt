-- Auctions of ABC by computation, from bytes: the day's volume after these messages, and whether the record is whole. So what demand 2 asks of a cross, of a correction and of one that is left out is met.
use Prim.Native.Nat.{ℕ, ◌+◌}
use mathlib.Core.Bool.{Bool, true, false}
use mathlib.Core.List.{List, [], ◌∷◌, ◌++◌}
use mathlib.Core.Path.{◌≡◌, refl}
use Rattle.wire.specs.Bytes.{value, little_endian}
use Rattle.wire.specs.Table.{shape_of}
use Rattle.wire.specs.Fields.{first_bad, fault_of}
use Rattle.wire.specs.Reading.{reach_by, reach_of, read_by, read_body, read_sized, read_shape, read_typed, read_reached, read_of}
use Rattle.markets.specs.Conditions.{listed}
use Rattle.markets.specs.declared.Market.{Market}
use Rattle.feed.specs.Reader.{ruled}
use Rattle.places.specs.Places.{first_where, tabulate, sum_by, insert, remove, look}
use Rattle.symbols.specs.State.{place_of, found_in, vacancy_of}
use Rattle.symbols.specs.Registering as registering
use Rattle.symbols.specs.Registering.{name_bad}
use Rattle.orders.specs.Rules.{apply_to}
use Rattle.record.specs.Rules.{deal_to, shares_of}
use Rattle.book.specs.Quote.{volume_of}
use Rattle.book.specs.Step.{enacted, meeting, act_on, meant, step_of}
use Rattle.book.specs.Walk.{steps_of}
use Rattle.demands.specs.Examples.{view_abc}
use Rattle.demands.specs.Messages.{index, buy, add, execute, execute_unprinted, cross, correction, cancel, clear}

-- after these messages the volume is so many shares, and the record is whole or not
abbrev Sums : List (List ℕ) → ℕ → Bool → Type 0
Sums ms shares whole = volume_of index (steps_of (view_abc Market.Nyse) ms) ≡ record { answer = 0; shares = shares; whole = whole }

-- the opening cross of 500 shares, of number 5
abbrev opening : List (List ℕ)
opening = cross 1 5 1234500 500 ∷ []

-- so many crosses of 100 shares, of numbers 1, 2, ..
abbrev crosses : ℕ → List (List ℕ)
crosses n = tabulate n (λ k. cross (k + 1) (k + 1) 1234500 100)

pub record Auctions : Type 0 where
  -- a cross counts, and its correction takes its place, also with 0; two corrections: the last one
  pub cross_counts : Sums opening 500 true
  pub correction_counts : Sums (opening ++ correction 2 5 300 ∷ []) 300 true
  pub correction_to_0 : Sums (opening ++ correction 2 5 0 ∷ []) 0 true
  pub corrected_twice : Sums (opening ++ correction 2 5 0 ∷ correction 3 5 9 ∷ []) 9 true
  -- of a number that is kept, one cross too many, and a correction of no cross: left out, and what comes next is done
  pub repeated : Sums (opening ++ cross 2 5 1234500 500 ∷ []) 500 false
  pub then_a_cross : Sums (opening ++ cross 2 5 1234500 500 ∷ cross 3 6 1234500 100 ∷ []) 600 false
  pub the_16th : Sums (crosses 16) 1600 true
  pub the_17th : Sums (crosses 17) 1600 false
  pub then_a_correction : Sums (crosses 17 ++ correction 18 16 150 ∷ []) 1650 false
  pub unknown : Sums (opening ++ correction 2 6 300 ∷ []) 500 false
  pub then_its_cross : Sums (opening ++ correction 2 6 300 ∷ cross 3 6 1234500 100 ∷ []) 600 false
  -- a trade of the same number is another, and goes alone; a cancel of a number that only a cross has finds nothing; a clear keeps the crosses
  pub beside_a_trade : Sums (opening ++ add 2 1001 buy 1234500 200 ∷ execute 3 1001 5 1234500 70 ∷ []) 570 true
  pub trade_cancelled : Sums (opening ++ add 2 1001 buy 1234500 200 ∷ execute 3 1001 5 1234500 70 ∷ cancel 4 5 ∷ []) 500 true
  pub no_trade_lem : Sums (opening ++ cancel 2 5 ∷ cross 3 6 1234500 100 ∷ []) 600 false
  pub past_a_clear : Sums (opening ++ clear 2 ∷ []) 500 true
  -- the shares of an auction stand in its cross: an execution that isn't printed records nothing
  pub counted_once : Sums (add 1 1001 buy 1234500 200 ∷ execute_unprinted 2 1001 7 1234500 200 ∷ cross 3 5 1234500 200 ∷ []) 200 true

pub auctions : Auctions
unfolding listed value little_endian shape_of first_bad fault_of reach_by reach_of read_by read_body read_sized read_shape read_typed read_reached read_of first_where tabulate sum_by insert remove look place_of found_in vacancy_of apply_to deal_to shares_of name_bad registering.registered volume_of ruled enacted meeting act_on meant step_of steps_of
auctions = record { cross_counts = refl; correction_counts = refl; correction_to_0 = refl; corrected_twice = refl; repeated = refl; then_a_cross = refl; the_16th = refl; the_17th = refl; then_a_correction = refl; unknown = refl; then_its_cross = refl; beside_a_trade = refl; trade_cancelled = refl; no_trade_lem = refl; past_a_clear = refl; counted_once = refl }

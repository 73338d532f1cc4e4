-- Every number that demand 1 lists of the message layer, of the book and of the page is given: by computation, of some bytes and of views that the calls make.
use mathlib.Core.List.{List, [], ◌∷◌}
use mathlib.Core.Path.{◌≡◌, refl}
use Prim.Native.Nat.{ℕ, zero, suc, ◌+◌}
use lib.ListN.{replicate}
use Rattle.wire.specs.Outcome.{done, refused, number_of, only, bad_at}
use Rattle.wire.specs.Bytes.{value, little_endian, plain_room, padded_plain}
use Rattle.markets.specs.Conditions.{listed}
use Rattle.wire.specs.Table.{shape_of}
use Rattle.wire.specs.Fields.{first_bad, fault_of}
use Rattle.wire.specs.Reading.{reach_by, reach_of, read_by, read_body, read_sized, read_shape, read_typed, read_reached, read_of}
use Rattle.wire.specs.Writing.{Write, write_sized, write_by, write_shape, write_of}
use Rattle.wire.specs.Message.{fault_in, bad_field_of}
use Rattle.wire.specs.declared.Message.{Message}
use Rattle.markets.specs.declared.Market.{Market}
use Rattle.feed.specs.Reader.{ruled}
use Rattle.places.specs.Places.{first_where, tabulate, fold, sum_by, insert, remove, look}
use Rattle.symbols.specs.State.{place_of, found_in, vacancy_of, padded_name}
use Rattle.symbols.specs.Registering as registering
use Rattle.symbols.specs.Registering.{name_bad}
use Rattle.orders.specs.Rules.{apply_to}
use Rattle.orders.specs.Levels.{level_of}
use Rattle.record.specs.Rules.{deal_to}
use Rattle.book.specs.State.{View, new_view}
use Rattle.book.specs.Registering.{register_of, told_number, told_in}
use Rattle.book.specs.Quote.{quote_of, volume_of}
use Rattle.book.specs.Step.{enacted, meeting, act_on, meant, step_of}
use Rattle.book.specs.Walk.{offset_by, move_of, walk_for, walk_of, steps_of}
use Rattle.columns.specs.Text.{fixed, digits_by, digits, priced, timed}
use Rattle.columns.specs.Columns.{rendered}
use Rattle.page.specs.Printing.{has_no_line, laid, line_by, line_of}
use Rattle.page.specs.Printout.{passed_text, end_text, quote_text, closing}
use Rattle.page.specs.Laying.{lay_from, lay_of}
use Rattle.demands.specs.Examples.{name, scale, view_abc, in_cash}
use Rattle.demands.specs.Messages.{index, buy, add, delete, execute_with, clear}

-- ---- `wire`
abbrev small : List ℕ
small = 3 ∷ 0 ∷ 100 ∷ 0 ∷ []

abbrev unknown : List ℕ
unknown = 4 ∷ 0 ∷ 255 ∷ 255 ∷ []

abbrev deletion : (nanos : ℕ) → Message
deletion nanos = Message.Delete (record { nanos = nanos; index = index; number = 1 }) 1001

abbrev zeros : List ℕ
zeros = replicate plain_room 0

-- a trade that is not displayed, and its array with these conditions
abbrev hidden : Message
hidden = Message.NonDisplayed (record { nanos = 125; index = index; number = 1 }) 1 1234500 200 1

abbrev with_conditions : (settlement exemption hours detail : ℕ) → List ℕ
with_conditions settlement exemption hours detail = padded_plain (settlement ∷ exemption ∷ hours ∷ detail ∷ [])

-- NYSE's, as those of the views
abbrev nyse : Market
nyse = Market.Nyse

pub record ByWire : Type 0 where
  pub reach_0 : reach_of (clear 1) ≡ done 20
  pub reach_1 : reach_of [] ≡ refused 1
  pub reach_2 : reach_of small ≡ refused 2
  pub read_1 : (read_of nyse []).outcome ≡ refused 1
  pub read_2 : (read_of nyse small).outcome ≡ refused 2
  pub read_3 : (read_of nyse unknown).outcome ≡ refused 3
  pub read_4 : (read_of nyse (add 1 1001 0 1234500 200)).outcome ≡ refused 4
  pub read_4_at : (read_of nyse (add 1 1001 0 1234500 200)).offset ≡ 32
  pub read_4_first : (read_of nyse (add 1 1001 0 1234500 0)).offset ≡ 28
  -- conditions: one that Texas alone lists, zeros that are no spaces, and a small l for odd lot
  pub read_4_condition : (read_of nyse (in_cash 1 1001 1 1234500 200)).outcome ≡ refused 4
  pub read_4_condition_at : (read_of nyse (in_cash 1 1001 1 1234500 200)).offset ≡ 38
  pub read_4_zero_at : (read_of nyse (execute_with 64 0 32 32 1 1001 1 1234500 200)).offset ≡ 39
  pub read_4_letter_at : (read_of nyse (execute_with 64 32 32 108 1 1001 1 1234500 200)).offset ≡ 41
  pub read_0_texas : number_of (read_of Market.Texas (in_cash 1 1001 1 1234500 200)).outcome ≡ 0
  pub test_0_condition : bad_field_of nyse hidden (with_conditions 64 79 84 73) ≡ only (done tt)
  pub test_4_condition : bad_field_of Market.National hidden (with_conditions 64 79 84 73) ≡ bad_at 30
  pub write_4_condition : (write_of nyse hidden (with_conditions 32 32 32 32) (replicate 33 0)).outcome ≡ refused 4
  pub write_4_condition_at : (write_of nyse hidden (with_conditions 32 32 32 32) (replicate 33 0)).offset ≡ 29
  pub write_0_condition : (write_of nyse hidden (with_conditions 64 32 32 32) (replicate 33 0)).outcome ≡ done 33
  pub test_0 : bad_field_of nyse (deletion 125) zeros ≡ only (done tt)
  pub test_4 : bad_field_of nyse (deletion 1000000000) zeros ≡ bad_at 4
  pub write_0 : (write_of nyse (deletion 125) zeros (replicate 25 0)).outcome ≡ done 25
  pub write_4 : (write_of nyse (deletion 1000000000) zeros (replicate 25 0)).outcome ≡ refused 4
  pub write_4_at : (write_of nyse (deletion 1000000000) zeros (replicate 25 0)).offset ≡ 4
  pub write_15 : (write_of nyse (deletion 125) zeros (replicate 24 0)).outcome ≡ refused 15

pub by_wire : ByWire
unfolding listed value little_endian shape_of first_bad fault_of fault_in reach_by reach_of read_by read_body read_sized read_shape read_typed read_reached read_of write_sized write_by write_shape write_of
by_wire = record { reach_0 = refl; reach_1 = refl; reach_2 = refl; read_1 = refl; read_2 = refl; read_3 = refl; read_4 = refl; read_4_at = refl; read_4_first = refl; read_4_condition = refl; read_4_condition_at = refl; read_4_zero_at = refl; read_4_letter_at = refl; read_0_texas = refl; test_0_condition = refl; test_4_condition = refl; write_4_condition = refl; write_4_condition_at = refl; write_0_condition = refl; test_0 = refl; test_4 = refl; write_0 = refl; write_4 = refl; write_4_at = refl; write_15 = refl }

-- ---- registering, and a quote
abbrev pub gap : List ℕ
gap = add 2 1001 buy 1234500 200

-- so many symbols registered
unfoldable pub registered_to : ℕ → View
registered_to zero = new_view nyse
registered_to (suc n) = (register_of (registered_to n) n name scale).view

pub record ByBook : Type 0 where
  pub register_0 : (register_of (new_view nyse) index name scale).answer ≡ 0
  pub register_11 : (register_of (view_abc nyse) index name scale).answer ≡ 11
  pub register_12 : (register_of (registered_to 8) 8 name scale).answer ≡ 12
  pub register_13 : (register_of (new_view nyse) index name 7).answer ≡ 13
  pub quote_0 : (quote_of index (view_abc nyse)).answer ≡ 0
  pub quote_5 : (quote_of index (new_view nyse)).answer ≡ 5
  pub quote_8 : (quote_of index (steps_of (view_abc nyse) (gap ∷ []))).answer ≡ 8
  pub volume_0 : (volume_of index (view_abc nyse)).answer ≡ 0
  pub volume_5 : (volume_of index (new_view nyse)).answer ≡ 5
  pub symbol_0 : told_number (told_in index (view_abc nyse)) ≡ 0
  pub symbol_5 : told_number (told_in index (new_view nyse)) ≡ 5

pub by_book : ByBook
unfolding registered_to value little_endian shape_of first_bad fault_of reach_by reach_of read_by read_body read_sized read_shape read_typed read_reached read_of first_where insert remove look place_of found_in vacancy_of apply_to deal_to name_bad registering.registered registering.told_of told_in quote_of volume_of ruled enacted meeting act_on meant step_of steps_of
by_book = record { register_0 = refl; register_11 = refl; register_12 = refl; register_13 = refl; quote_0 = refl; quote_5 = refl; quote_8 = refl; volume_0 = refl; volume_5 = refl; symbol_0 = refl; symbol_5 = refl }

-- ---- a message, with ABC registered
abbrev one : List ℕ
one = add 1 1001 buy 1234500 200

abbrev Answered : View → List ℕ → ℕ → Type 0
Answered v s answer = (move_of v s 0).answer ≡ answer

pub record ByMessage : Type 0 where
  pub given_0 : Answered (view_abc nyse) one 0
  pub given_1 : Answered (view_abc nyse) [] 1
  pub given_2 : Answered (view_abc nyse) small 2
  pub given_3 : Answered (view_abc nyse) unknown 3
  pub given_4 : Answered (view_abc nyse) (add 1 1001 0 1234500 200) 4
  pub given_4_at : offset_by (reach_of (add 1 1001 0 1234500 200)) nyse (add 1 1001 0 1234500 200) 0 ≡ 32
  pub given_5 : Answered (new_view nyse) one 5
  pub given_6 : Answered (view_abc nyse) (add 0 1001 buy 1234500 200) 6
  pub given_7 : Answered (view_abc nyse) gap 7
  pub given_8 : Answered (steps_of (view_abc nyse) (gap ∷ [])) one 8
  pub given_9 : Answered (view_abc nyse) (delete 1 1001) 9

pub by_message : ByMessage
unfolding value little_endian shape_of first_bad fault_of reach_by reach_of read_by read_body read_sized read_shape read_typed read_reached read_of first_where insert remove look place_of found_in vacancy_of apply_to deal_to name_bad registering.registered ruled enacted meeting act_on meant step_of move_of steps_of
by_message = record { given_0 = refl; given_1 = refl; given_2 = refl; given_3 = refl; given_4 = refl; given_4_at = refl; given_5 = refl; given_6 = refl; given_7 = refl; given_8 = refl; given_9 = refl }

-- 256 live orders, and one more
abbrev adds : List (List ℕ)
adds = tabulate 256 (λ k. add (k + 1) (k + 1) buy 1234500 200)

pub given_10 : Answered (steps_of (view_abc nyse) adds) (add 257 257 buy 1234500 200) 10
unfolding value little_endian shape_of first_bad fault_of reach_by reach_of read_by read_body read_sized read_shape read_typed read_reached read_of first_where tabulate insert remove look place_of found_in vacancy_of apply_to deal_to name_bad registering.registered ruled enacted meeting act_on meant step_of move_of steps_of
given_10 = refl

-- ---- a run
pub record ByRun : Type 0 where
  pub run_1 : (walk_of one 0).answer ≡ 1
  pub run_2 : (walk_of small 0).answer ≡ 2

pub by_run : ByRun
unfolding value little_endian reach_by reach_of walk_for walk_of
by_run = record { run_1 = refl; run_2 = refl }

-- ---- a line, with ABC registered or not, a laying and the end
abbrev bought : (side : ℕ) → Message
bought side = Message.Add (record { nanos = 125; index = index; number = 1 }) 1001 1234500 200 side

abbrev lined : View → Message → (second room : ℕ) → Write
lined v m second room = line_of v.market (told_in index v) m zeros 57 second (replicate room 0)

pub record ByPage : Type 0 where
  pub line_0 : (lined (view_abc nyse) (bought buy) 34200 60).outcome ≡ done 60
  pub line_3 : (lined (view_abc nyse) (deletion 125) 34200 60).outcome ≡ refused 3
  pub line_4 : (lined (view_abc nyse) (bought 0) 34200 60).outcome ≡ refused 4
  pub line_4_at : (lined (view_abc nyse) (bought 0) 34200 60).offset ≡ 32
  pub line_5 : (lined (new_view nyse) (bought buy) 34200 60).outcome ≡ refused 5
  pub line_14 : (lined (view_abc nyse) (bought buy) 86400 60).outcome ≡ refused 14
  pub line_15 : (lined (view_abc nyse) (bought buy) 34200 59).outcome ≡ refused 15
  pub lay_1 : (lay_of 34200 640 (view_abc nyse) one 0 0).answer ≡ 1
  pub lay_2 : (lay_of 34200 640 (view_abc nyse) small 0 0).answer ≡ 2
  pub lay_15 : (lay_of 34200 639 (view_abc nyse) one 0 0).answer ≡ 15
  pub end_0 : (laid (closing (view_abc nyse) index 1) (replicate 10 0)).outcome ≡ done 10
  pub end_15 : (laid (closing (view_abc nyse) index 1) (replicate 9 0)).outcome ≡ refused 15

pub by_page : ByPage
unfolding value little_endian shape_of first_bad fault_of fault_in reach_by reach_of read_by read_body read_sized read_shape read_typed read_reached read_of first_where insert remove look place_of found_in vacancy_of apply_to deal_to name_bad registering.registered registering.told_of ruled enacted meeting act_on meant step_of told_in padded_name tabulate rendered fixed digits_by digits priced timed has_no_line laid line_by line_of passed_text lay_from lay_of walk_for walk_of closing end_text quote_text quote_of level_of fold sum_by
by_page = record { line_0 = refl; line_3 = refl; line_4 = refl; line_4_at = refl; line_5 = refl; line_14 = refl; line_15 = refl; lay_1 = refl; lay_2 = refl; lay_15 = refl; end_0 = refl; end_15 = refl }

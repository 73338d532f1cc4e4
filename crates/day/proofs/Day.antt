-- Each row of the day holds by computation, and the calls' promises cite the rules that were computed; L is the page's marked case.
use mathlib.Core.List.{List, [], ◌∷◌}
use mathlib.Core.Path.{◌≡◌, refl, ap, ◌∙◌}
use Rattle.wire.specs.Bytes.{value, little_endian}
use Rattle.wire.specs.Table.{shape_of}
use Rattle.markets.specs.Conditions.{listed}
use Rattle.wire.specs.Fields.{first_bad, fault_of}
use Rattle.wire.specs.Reading.{reach_by, reach_of, read_by, read_body, read_sized, read_shape, read_typed, read_reached, read_of}
use Rattle.markets.specs.declared.Market.{Market}
use Rattle.places.specs.Places.{first_where, fold, sum_by, insert, remove, look, tabulate}
use Rattle.symbols.specs.State.{place_of, found_in, vacancy_of, padded_name}
use Rattle.symbols.specs.Registering.{name_bad, registered, told_of}
use Rattle.orders.specs.Rules.{apply_to}
use Rattle.record.specs.Rules.{deal_to}
use Rattle.book.specs.State.{View}
use Rattle.book.specs.Registering.{told_in}
use Rattle.book.specs.declared.Book.{Book}
use Rattle.page.specs.Printing.{line_of, told}
use Rattle.page.specs.Marked as marked
use Rattle.page.proofs.Marked.{case_l}
use Rattle.demands.specs.Examples.{HasABC}
use Rattle.orders.specs.Levels.{best_step, shares_at, level_of}
use Rattle.book.specs.Quote.{quote_of}
use Rattle.feed.specs.Reader.{ruled}
use Rattle.book.specs.Step.{enacted, meeting, act_on, meant, step_of}
use Rattle.book.specs.Walk.{move_of, steps_of}
use Rattle.demands.specs.Messages.{index}
use Rattle.demands.proofs.Starting.{began_wf}
use Rattle.demands.proofs.Demand3.{reads_after}
use Rattle.demands.proofs.Examples.{has_began, has_view}
use Rattle.day.specs.Rows.{Row, result_of, ByRule, ByCalls, AllRows, rows, LineL, Day}

-- what the calls hand back is what the rules say
by_calls : (r : Row) → ByRule r → ByCalls r
unfolding move_of
by_calls r h = record {
  by_calls = λ {market = market} p reads moves.
      let a = reads_after (began_wf (has_began p)) reads in
      let o = moves.obeys a.sound in
      let before = a.seen ∙ ap (λ (v : View). steps_of v r.after) (has_view p) in
      (λ i. record { answer = o.answer i; moves = moves.at i; quote = quote_of index (o.next_view i) })
      ∙ ap (λ (v : View). result_of v r.bytes) before ∙ h market;
}

all_by_calls : (rs : List Row) → AllRows ByRule rs → AllRows ByCalls rs
all_by_calls [] h = tt
all_by_calls (r ∷ rs) h = (by_calls r h.0, all_by_calls rs h.1)

by_rule : AllRows ByRule rows
unfolding listed value little_endian shape_of first_bad fault_of reach_by reach_of read_by read_body read_sized read_shape read_typed read_reached read_of first_where fold sum_by insert remove look place_of found_in vacancy_of apply_to deal_to name_bad registered best_step shares_at level_of quote_of ruled enacted meeting act_on meant step_of move_of steps_of
by_rule = ((λ market. refl), ((λ market. refl), ((λ market. refl), ((λ market. refl), ((λ market. refl), ((λ market. refl), ((λ market. refl), ((λ market. refl), ((λ market. refl), ((λ market. refl), ((λ market. refl), ((λ market. refl), ((λ market. refl), tt)))))))))))))

-- what is told of ABC is what the marked case has
abc_told : {market : Market} {b : Book} → HasABC market b → told b marked.add ≡ marked.abc
unfolding first_where place_of found_in vacancy_of name_bad registered told_of told_in padded_name tabulate
abc_told p = ap (told_in 7) (has_view p) ∙ refl

line_l_lem : LineL
unfolding value little_endian shape_of first_bad fault_of reach_by reach_of read_by read_body read_sized read_shape read_typed read_reached read_of
line_l_lem = record {
  reads = λ market. refl;
  by_calls = λ p out after h promise room.
      promise (began_wf (has_began h)) ∙ (λ i. line_of (has_view h i).market (abc_told h i) marked.add marked.firm marked.sequence_l marked.second_l out) ∙ case_l _ out room;
}

-- THE DAY
pub day : Day
day = record { a_to_k = all_by_calls rows by_rule; l = line_l_lem }

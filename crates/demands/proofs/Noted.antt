-- A run that notes answers is a run over the messages that it passed, laid end to end.
use mathlib.Core.List.{List, [], ◌∷◌, ◌++◌, append-nil, flatten}
use mathlib.Core.Path.{◌≡◌, refl, sym, ap, ◌∙◌}
use Prim.Native.Nat.{ℕ, zero, suc, ◌+◌}
use native.Mathlib.Nat.{add-zero}
use native.Mathlib.Omega.{arith}
use lib.ListN.{length, take, drop, length-append}
use lib.Seq.{length-take-le}
use Rattle.wire.specs.Outcome.{Outcome, done, refused}
use Rattle.wire.specs.Bytes.{value, little_endian}
use Rattle.wire.specs.Table.{shape_of}
use Rattle.wire.specs.Fields.{first_bad, fault_of}
use Rattle.wire.specs.Reading.{reach_by, reach_of, read_by, read_body, read_sized, read_shape, read_typed, read_reached, read_of}
use Rattle.markets.specs.declared.Market.{Market}
use Rattle.feed.specs.Reader.{ruled}
use Rattle.places.specs.Places.{first_where, insert, remove, look}
use Rattle.symbols.specs.State.{place_of, found_in, vacancy_of}
use Rattle.symbols.specs.Registering as registering
use Rattle.symbols.specs.Registering.{name_bad}
use Rattle.orders.specs.Rules.{apply_to}
use Rattle.record.specs.Rules.{deal_to}
use Rattle.book.specs.Step.{enacted, meeting, act_on, meant, step_of}
use Rattle.wire.proofs.Cases.{reached}
use Rattle.book.specs.State.{view}
use Rattle.book.specs.Walk.{AllComplete, Walk, walk_by, walk_up_to, walk_of, steps_of, answers_of, run_of, Runs, Notes}
use Rattle.book.specs.Reached.{ran}
use Rattle.book.specs.declared.Book.{Book}
use Rattle.book.specs.declared.walk.Noted.{Noted}
use Rattle.book.proofs.Positions.{past_the_end}
use Rattle.book.proofs.Streams.{complete_part}
use Rattle.parts.proofs.Walks.{walk_behind}
use Rattle.book.proofs.Reaching.{reached_wf}
use Rattle.demands.specs.Noted.{NotedReached, OneNoted}
use Rattle.demands.specs.Examples.{view_abc}
use Rattle.demands.proofs.EveryNumber.{gap}

-- ---- what is passed is complete messages, and the position is behind them
passed_complete : (f : ℕ) (s : List ℕ) (at : ℕ) → AllComplete (walk_up_to f s at).messages
unfolding walk_up_to
passed_complete zero s at = tt
passed_complete (suc f) s at = go (passed_complete f s) (reach_of (drop at s)) refl
  where
    go : ((e : ℕ) → AllComplete (walk_up_to f s e).messages) → (x : Outcome ℕ) → reach_of (drop at s) ≡ x → AllComplete (walk_by x s at (λ e. walk_up_to f s e)).messages
    go ih (refused a) e = tt
    go ih (done n) e = (complete_part (drop at s) n e, ih (at + n))

passed_to : (f : ℕ) (s : List ℕ) (at : ℕ) → (walk_up_to f s at).at ≡ at + length (flatten (walk_up_to f s at).messages)
unfolding walk_up_to flatten
passed_to zero s at = sym (add-zero at)
passed_to (suc f) s at = go (passed_to f s) (reach_of (drop at s)) refl
  where
    go : ((e : ℕ) → (walk_up_to f s e).at ≡ e + length (flatten (walk_up_to f s e).messages)) → (x : Outcome ℕ) → reach_of (drop at s) ≡ x
        → (walk_by x s at (λ e. walk_up_to f s e)).at ≡ at + length (flatten (walk_by x s at (λ e. walk_up_to f s e)).messages)
    go ih (refused a) e = sym (add-zero at)
    go ih (done n) e = omega (arith, ih (at + n), length-append (take n (drop at s)) (flatten (walk_up_to f s (at + n)).messages), length-take-le n (drop at s) (reached (drop at s) n e).there)

-- ---- complete messages end to end are all passed, and the answer is 1
pub walk_all : (ms : List (List ℕ)) → AllComplete ms → walk_of (flatten ms) 0 ≡ record { messages = ms; at = length (flatten ms); answer = 1 }
walk_all ms c =
    let none : walk_of [] 0 ≡ record { messages = []; at = 0; answer = 1 } = past_the_end [] 0 (omega arith) in
    ap (λ (l : List ℕ). walk_of l 0) (sym (append-nil (flatten ms)))
    ∙ walk_behind ms c []
    ∙ (λ i. record { messages = ms ++ (none i).messages; at = length (flatten ms) + (none i).at; answer = (none i).answer })
    ∙ (λ i. record { messages = append-nil ms i; at = add-zero (length (flatten ms)) i; answer = 1 })

pub noted_runs : (b : Book) (s : List ℕ) (from : ℕ) (before : List ℕ) (r : Noted) (after : List ℕ) → Notes b s from before r after
    → Runs b (flatten (walk_up_to (length before) s from).messages) 0 (record { book = r.book; at = length (flatten (walk_up_to (length before) s from).messages); answer = 1 })
unfolding run_of
noted_runs b s from before r after w =
    let ms = (walk_up_to (length before) s from).messages in
    let all = walk_all ms (passed_complete (length before) s from) in
    record {
      at = sym (ap (λ (x : Walk). x.at) all);
      answer = sym (ap (λ (x : Walk). x.answer) all);
      market = w.market;
      kept = λ e. w.kept (w.at ∙ passed_to (length before) s from ∙ ap (λ (k : ℕ). from + k) e ∙ add-zero from);
      obeys = λ f. record { wf = (w.obeys f).wf; next_view = (w.obeys f).next_view ∙ sym (ap (λ (x : Walk). steps_of (view b) x.messages) all); answer = sym (ap (λ (x : Walk). x.answer) all) };
    }

pub noted_reached : NotedReached
noted_reached = record { noting = λ {b = b} {s = s} {from = from} {before = before} {r = r} {after = after} p w. ran p (noted_runs b s from before r after w) }

-- ---- and what it promises of a state that calls handed back is one outcome
pub one_noted : OneNoted
one_noted = record {
  noting = λ p m n.
      let f = m.obeys (reached_wf p) in
      let g = n.obeys (reached_wf p) in
      (m.answer ∙ sym n.answer, m.at ∙ sym n.at, m.count ∙ sym n.count, f.next_view ∙ sym g.next_view, f.noted ∙ sym g.noted);
}

-- ---- by computation: one note and two messages, two notes and two messages; and each note is the answer of the view before its message
abbrev two : List ℕ
two = gap ++ gap

pub one_note : walk_up_to 1 two 0 ≡ record { messages = gap ∷ []; at = length gap; answer = 15 }
unfolding walk_up_to value little_endian reach_by reach_of
one_note = refl

pub two_notes : walk_up_to 2 two 0 ≡ record { messages = gap ∷ gap ∷ []; at = length two; answer = 1 }
unfolding walk_up_to value little_endian reach_by reach_of
two_notes = refl

pub gap_then_stale : answers_of (view_abc Market.Nyse) (gap ∷ gap ∷ []) ≡ 7 ∷ 8 ∷ []
unfolding answers_of value little_endian shape_of first_bad fault_of reach_by reach_of read_by read_body read_sized read_shape read_typed read_reached read_of first_where insert remove look place_of found_in vacancy_of apply_to deal_to name_bad registering.registered ruled enacted meeting act_on meant step_of
gap_then_stale = refl

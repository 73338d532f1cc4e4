-- A message meets the symbol of its index, wherever that lies: what the code knows of the place and of the turn picks the clause of the rule.
use mathlib.Core.Bool.{Bool, true, false}
use mathlib.Core.List.{List}
use mathlib.Core.Logic.{◌≢◌}
use mathlib.Core.Option.{Option, none, some}
use mathlib.Core.Path.{◌≡◌, refl, sym, ap, ◌∙◌}
use Prim.Native.Nat.{ℕ, suc, ◌<◌, ◌≤◌}
use native.Mathlib.Omega.{arith}
use borrow.Author.Tests.{ltb-false}
use lib.Dec.{ltb}
use lib.ListN.{get_or, set}
use lib.Seq.{set-get_or}
use Rattle.feed.specs.Reader.{Fit, Ruling, unchanged, made_stale, ruled, Act, clearing, numbered, index_of}
use Rattle.std.specs.Prelude.{Ok, Err}
use Rattle.wire.specs.Outcome.{number_of}
use Rattle.wire.specs.Reading.{answered_as, decoded_as}
use Rattle.wire.specs.declared.Decoded.{Decoded}
use Rattle.wire.specs.declared.ReadError.{ReadError}
use Rattle.places.specs.Places.{symbols, among}
use Rattle.places.proofs.EightShelves.{by_place}
use Rattle.places.specs.Tickets.{first_in}
use Rattle.symbols.specs.State.{numbers, Entry, entries, itself, place_of}
use Rattle.symbols.specs.Turns.{staled, restarted, turn_answer, turn_at}
use Rattle.symbols.specs.Promises.{Alters}
use Rattle.symbols.specs.Answers as told
use Rattle.symbols.specs.declared.turns.TurnError.{TurnError}
use Rattle.symbols.specs.declared.Symbols.{Symbols}
use Rattle.symbols.proofs.Entries.{entry_past, seat_is}
use Rattle.book.specs.State.{Symbol, View, with_places, Next, entry_at, orders_at, record_at, symbol_of, view, place_in, Wf}
use Rattle.orders.specs.Rules.{apply_to}
use Rattle.book.specs.Step.{change_of, deal_of, symbol_made_stale, enacted, meeting, refusing, put, act_on, meant, step_of}
use Rattle.book.specs.Promises.{unchanging, Obeys, Steps, Awaits, Settles}
use Rattle.orders.specs.Promises.{Clears}
use Rattle.orders.specs.declared.Order.{Order}
use Rattle.orders.specs.declared.Orders.{Orders}
use Rattle.book.specs.declared.Book.{Book}
use Rattle.book.specs.declared.Done.{Done}
use Rattle.book.specs.declared.acts.Effect.{Effect}
use Rattle.book.proofs.Views.{same_market, seen, place_is, view_at, symbol_missing, SymbolAt, symbol_at}
use Rattle.book.proofs.Stores.{stales, clears}

-- ---- promises
-- a refusal that leaves the state as it was
pub nothing_steps : (b : Book) (x : Next) (a : ℕ) → (Wf b → x ≡ refusing (view b) a) → Steps b x (record { book = b; answer = a })
nothing_steps b x a e = record {
  market = refl;
  kept = λ u. refl;
  obeys = λ w. record { wf = w; next_view = sym (ap (λ (y : Next). y.view) (e w)); answer = sym (ap (λ (y : Next). y.answer) (e w)) };
}

-- an answer that changes something
pub changes : (b : Book) (x : Next) (r : Done) → (view r.book).market ≡ (view b).market → unchanging r.answer ≡ false → (Wf b → Obeys x r.book r.answer) → Steps b x r
changes b x r same n p = record {
  market = same;
  kept = λ u. absurd (let z : ◌≡◌ {A = Bool} true false = sym u ∙ n in let o : ◌≡◌ {A = ℕ} 0 1 = cc in omega arith);
  obeys = p;
}

-- ---- the symbol of a message
module _ (b : Book) (a : Act Effect) where
  act_missing : symbols ≤ place_in (index_of a) (view b) → act_on (view b) a ≡ refusing (view b) 5
  unfolding act_on
  act_missing h = rw (symbol_missing b (index_of a) h)

  act_at_lem : (k : ℕ) → k ≡ place_in (index_of a) (view b) → (r : SymbolAt b (index_of a) k) → act_on (view b) a ≡ put (view b) k (meeting (symbol_of r.entry (orders_at b k) (record_at b k)) a)
  unfolding act_on
  act_at_lem k e r = rw (r.there, ← e)

-- a symbol that stays as it was leaves the view as it was
put_same : (b : Book) (k a : ℕ) (e : Entry) → k < symbols → entry_at b k ≡ some e → put (view b) k (record { symbol = symbol_of e (orders_at b k) (record_at b k); answer = a }) ≡ refusing (view b) a
put_same b k a e h at =
    let there : get_or (view b).places k none ≡ some (symbol_of e (orders_at b k) (record_at b k)) = view_at b k h ∙ ap (λ (x : Option Entry). seen x (orders_at b k) (record_at b k)) at in
    ap (λ (ps : List (Option Symbol)). refusing (with_places (view b) ps) a) (ap (set (view b).places k) (sym there) ∙ set-get_or (view b).places k none)

-- ---- the turn of a number
module _ (x : Fit (List Order)) where
  turned_away : (stale below above : Bool) → (turn_answer stale below above ≡ 7 → ⊥) → (turn_answer stale below above ≡ 0 → ⊥) → ruled stale below above x ≡ unchanged (turn_answer stale below above)
  unfolding ruled
  turned_away true below above p q = refl
  turned_away false true above p q = refl
  turned_away false false true p q = absurd (p refl)
  turned_away false false false p q = absurd (q refl)

  turned_stale : (stale below above : Bool) → turn_answer stale below above ≡ 7 → ruled stale below above x ≡ made_stale 7
  unfolding ruled
  turned_stale true below above p = absurd (omega (arith, p))
  turned_stale false true above p = absurd (omega (arith, p))
  turned_stale false false true p = refl
  turned_stale false false false p = absurd (omega (arith, p))

  in_turn : (stale below above : Bool) → turn_answer stale below above ≡ 0 → ruled stale below above x ≡ ruled false false false x
  unfolding ruled
  in_turn true below above p = absurd (omega (arith, p))
  in_turn false true above p = absurd (omega (arith, p))
  in_turn false false true p = absurd (omega (arith, p))
  in_turn false false false p = refl

turn_number : (stale : Bool) (n expected : ℕ) → turn_answer stale (ltb n expected) (ltb expected n) ≡ 0 → expected ≡ n
unfolding ruled
turn_number stale n expected = go stale (ltb n expected) (ltb expected n) refl refl
  where
    go : (s t u : Bool) → ltb n expected ≡ t → ltb expected n ≡ u → turn_answer s t u ≡ 0 → expected ≡ n
    go true t u p q e = absurd (omega (arith, e))
    go false true u p q e = absurd (omega (arith, e))
    go false false true p q e = absurd (omega (arith, e))
    go false false false p q e = omega (arith, ltb-false n expected p, ltb-false expected n q)

-- ---- a numbered message, by what the test of its turn answered
turn_missing : (x : Option Entry) (n : ℕ) → x ≡ none → turn_at x n ≡ 5
unfolding turn_at
turn_missing x n e = rw e

-- the symbols were asked for the place of an index, and there for the turn of a number
pub record Asked (b : Book) (index n k t : ℕ) : Type 0 where
  pub place : k ≡ place_of itself index (entries b.symbols)
  pub turn : t ≡ turn_at (entry_at b k) n

module _ (b : Book) (index n : ℕ) (e : Effect) (k t : ℕ) (asked : Asked b index n k t) where
  is : k ≡ place_in index (view b)
  is = asked.place ∙ place_is b index

  -- place k has a symbol where the turn is not 5
  past : symbols ≤ k → t ≡ 5
  past h = asked.turn ∙ turn_missing (entry_at b k) n (entry_past b.symbols k h)

  within : t ≢ 5 → k < symbols
  within ne = by_place k (λ h. h) (λ h. absurd (ne (past h)))

  module _ (in_range : k < symbols) where
    abbrev at_k : SymbolAt b index k
    at_k = symbol_at b index k is in_range

    abbrev symbol : Symbol
    symbol = symbol_of at_k.entry (orders_at b k) (record_at b k)

    abbrev comes_to : Ruling (List Order) → Next
    comes_to r = put (view b) k (enacted symbol (deal_of e) r)

    met : act_on (view b) (numbered index n e) ≡ comes_to (ruled at_k.entry.standing.stale (ltb n at_k.entry.standing.expected) (ltb at_k.entry.standing.expected n) (apply_to (orders_at b k) (change_of e)))
    unfolding meeting
    met = act_at_lem b (numbered index n e) k is at_k

    turned : t ≡ turn_answer at_k.entry.standing.stale (ltb n at_k.entry.standing.expected) (ltb at_k.entry.standing.expected n)
    unfolding turn_at
    turned = asked.turn ∙ ap (λ (x : Option Entry). turn_at x n) at_k.at

    meet_stale : t ≡ 7 → act_on (view b) (numbered index n e) ≡ put (view b) k (record { symbol = symbol_made_stale symbol; answer = 7 })
    unfolding enacted
    meet_stale z = met ∙ ap comes_to (turned_stale (apply_to (orders_at b k) (change_of e)) _ _ _ (sym turned ∙ z))

    meet_refused : t ≢ 7 → t ≢ 0 → act_on (view b) (numbered index n e) ≡ refusing (view b) t
    unfolding enacted
    meet_refused p q =
        met ∙ ap comes_to (turned_away (apply_to (orders_at b k) (change_of e)) _ _ _ (λ z. p (turned ∙ z)) (λ z. q (turned ∙ z)))
        ∙ put_same b k _ at_k.entry in_range at_k.at ∙ ap (refusing (view b)) (sym turned)

    meet_in : t ≡ 0 → act_on (view b) (numbered index n e) ≡ comes_to (ruled false false false (apply_to (orders_at b k) (change_of e)))
    meet_in z = met ∙ ap comes_to (in_turn (apply_to (orders_at b k) (change_of e)) _ _ _ (sym turned ∙ z))

    abbrev awaits : t ≡ 0 → n < numbers → Awaits b k
    awaits z h = record { place = in_range; entry = at_k.entry; there = at_k.at; expected = rw (turn_number at_k.entry.standing.stale n at_k.entry.standing.expected (sym turned ∙ z)) h }

  meet_away : t ≢ 7 → t ≢ 0 → act_on (view b) (numbered index n e) ≡ refusing (view b) t
  meet_away p q = by_place k
      (λ h. meet_refused h p q)
      (λ h. act_missing b (numbered index n e) (rw is at h) ∙ ap (refusing (view b)) (sym (past h)))

-- a refusal has a number
pub turn_some : (e : TurnError) → told.turn_number e ≢ 0
turn_some TurnError.Unknown z = omega (arith, z)
turn_some TurnError.Old z = omega (arith, z)
turn_some TurnError.Gap z = omega (arith, z)
turn_some TurnError.Stale z = omega (arith, z)

-- ---- the same by the place that the tickets tell, which is the symbol's in a sound state
module _ (b : Book) (index n k : ℕ) (seat : k ≡ first_in b.symbols.tickets 0 symbols (suc index)) (e : Effect) where
  place : Wf b → k ≡ place_of itself index (entries b.symbols)
  place w = seat ∙ seat_is b.symbols w.names index

  pub turn_nobody : symbols ≤ k → Steps b (act_on (view b) (numbered index n e)) (record { book = b; answer = 5 })
  turn_nobody h = nothing_steps b _ 5 (λ w. act_missing b (numbered index n e) (rw (place w ∙ place_is b index) at h))

module _ (b : Book) (index n k : ℕ) (seat : k ≡ first_in b.symbols.tickets 0 symbols (suc index)) (below : k < symbols) (t : ℕ) (turn : t ≡ turn_at (entry_at b k) n) (e : Effect) where
  asked : Wf b → Asked b index n k t
  asked w = record { place = place b index n k seat e w; turn = turn }

  -- 7: the symbol becomes stale
  pub turn_above : t ≡ 7 → (s : Symbols) → Alters b.symbols k staled s
      → Steps b (act_on (view b) (numbered index n e)) (record { book = record { symbols = s; orders = b.orders; trades = b.trades; market = b.market }; answer = 7 })
  unfolding among
  turn_above z s a = changes b _ _ (same_market b _ refl) refl (λ w.
      let q = asked w in
      let h = within b index n e k t q (λ five. omega (arith, z, five)) in
      rw (meet_stale b index n e k t q h z) (stales b k h (at_k b index n e k t q h).entry (at_k b index n e k t q h).at w 7 (record { book = record { symbols = s; orders = b.orders; trades = b.trades; market = b.market }; answer = 7 })
      (record { symbols = a; orders = refl; trades = refl; market = refl; answer = refl })))

  -- 5, 6, 8: nothing changes
  pub turn_refused : t ≢ 7 → t ≢ 0 → Steps b (act_on (view b) (numbered index n e)) (record { book = b; answer = t })
  turn_refused p q = nothing_steps b _ t (λ w. meet_away b index n e k t (asked w) p q)

  -- in its turn it is taken
  pub turn_due : t ≡ 0 → n < numbers → (r : Done) → Settles b k e r → Steps b (act_on (view b) (numbered index n e)) r
  turn_due z fits r s = changes b _ r s.market s.changes (λ w.
      let q = asked w in
      let h = within b index n e k t q (λ five. omega (arith, z, five)) in
      rw (meet_in b index n e k t q h z) (s.obeys (awaits b index n e k t q h z fits) w))

-- ---- a clear, by the place of its symbol
pub clears_nobody : (b : Book) (index next : ℕ) → symbols ≤ place_of itself index (entries b.symbols) → Steps b (act_on (view b) (clearing index next)) (record { book = b; answer = 5 })
clears_nobody b index next h = nothing_steps b _ 5 (λ w. act_missing b (clearing index next) (rw (place_is b index) at h))

module _ (b : Book) (index next k : ℕ) (place : k ≡ place_of itself index (entries b.symbols)) where
  cleared_at : k ≡ place_in index (view b)
  cleared_at = place ∙ place_is b index

  pub clears_symbol : k < symbols → (s : Symbols) → Alters b.symbols k (restarted next) s → (os : Orders) → Clears b.orders k os
      → Steps b (act_on (view b) (clearing index next)) (record { book = record { symbols = s; orders = os; trades = b.trades; market = b.market }; answer = 0 })
  unfolding among meeting
  clears_symbol h s a os c =
      let f = symbol_at b index k cleared_at h in
      changes b _ _ (same_market b _ refl) refl (λ w. rw (act_at_lem b (clearing index next) k cleared_at f) (clears b k h f.entry f.at w next s a os c))

-- ---- what reading answered
pub refused_read_lem : (v : View) (e : ReadError) → step_of v (decoded_as (Err e)) ≡ refusing v (number_of (answered_as (Err e)).outcome)
unfolding step_of
refused_read_lem v ReadError.Short = refl
refused_read_lem v ReadError.BadSize = refl
refused_read_lem v ReadError.BadType = refl
refused_read_lem v (ReadError.BadField n) = refl

pub read_acts : (v : View) (d : Decoded) → step_of v (decoded_as (Ok d)) ≡ act_on v (meant d.message)
unfolding step_of
read_acts v d = refl

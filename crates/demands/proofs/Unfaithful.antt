-- Readers that agree with each other and not with the book do not meet demand 3: after one add the book has an order, and they show none.
use mathlib.Core.Bool.{true, false}
use mathlib.Core.List.{List}
use mathlib.Core.Path.{◌≡◌, refl, sym, ap, ◌∙◌}
use Prim.Native.Nat.{ℕ}
use native.Mathlib.Omega.{arith}
use Rattle.std.specs.Prelude as sides
use Rattle.wire.specs.Bytes.{value, little_endian}
use Rattle.wire.specs.Table.{shape_of}
use Rattle.wire.specs.Fields.{first_bad, fault_of}
use Rattle.wire.specs.Reading.{reach_by, reach_of, read_by, read_body, read_sized, read_shape, read_typed, read_reached, read_of}
use Rattle.markets.specs.declared.Market.{Market}
use Rattle.feed.specs.Book.{fitted, book_after, book_of}
use Rattle.feed.specs.Demand3.{here, more, at_start, NotLost, NoneLost}
use Rattle.places.specs.Places.{first_where, fold, sum_by, insert, look}
use Rattle.symbols.specs.State.{place_of, found_in, vacancy_of}
use Rattle.orders.specs.Rules.{apply_to}
use Rattle.symbols.specs.Registering as registering
use Rattle.symbols.specs.Registering.{name_bad}
use Rattle.book.specs.State.{View, view}
use Rattle.book.specs.Step.{meant}
use Rattle.orders.specs.Levels.{best_step, shares_at, level_of}
use Rattle.orders.specs.Rows.{row_at, as_level}
use Rattle.orders.proofs.Ranking.{first_row_is_the_level}
use Rattle.book.specs.Quote.{no_quote, quoted_if, quote_of}
use Rattle.book.specs.Depth.{no_depth}
use Rattle.book.specs.declared.Book.{Book}
use Rattle.book.specs.declared.depth.Depth.{Depth}
use Rattle.orders.specs.declared.levels.Level.{Level}
use Rattle.book.specs.declared.quote.Quote.{Quote}
use Rattle.demands.specs.Reader.{pillar, Registered}
use Rattle.demands.specs.ByteFeed.{sent, delivered, feed_of}
use Rattle.demands.specs.Demand3.{Demand3, quote_in}
use Rattle.demands.specs.Depth.{depth_in, Demand3OfDepth}
use Rattle.demands.specs.Examples.{HasABC, view_abc, one_add}
use Rattle.demands.specs.Messages.{index, shows, no_level, ◌at◌}
use Rattle.demands.proofs.Examples.{has_view, given_one_add}
use Rattle.demands.proofs.Depth.{first_row_is_the_quote}

-- by computation: the book of the feed, and what is quoted before it
record Computed (market : Market) : Type 0 where
  pub book : quoted_if false (book_of pillar index (feed_of market one_add)) ≡ shows (200 at 1234500) no_level
  pub before : quote_of index (view_abc market) ≡ shows no_level no_level
  pub registered : Registered index (view_abc market)
  pub none_lost : NoneLost index (feed_of market one_add)

computed : (market : Market) → Computed market
unfolding feed_of book_of book_after fitted NotLost quote_of level_of best_step shares_at fold sum_by value little_endian shape_of first_bad fault_of reach_by reach_of read_by read_body read_sized read_shape read_typed read_reached read_of first_where insert look place_of found_in vacancy_of apply_to name_bad registering.registered meant
computed market = record { book = refl; before = refl; registered = tt; none_lost = record { from = _; counts = at_start; since = more here tt } }

module _ (Takes : Book → List (List ℕ) → Book → Type 0) {market : Market} {b c : Book} (demand : Demand3 Takes b c) (p : HasABC market b) (q : HasABC market c) where
  -- whatever way a reader takes messages, one that meets the demand shows the add
  pub shows_an_add : {first second : Book} → Takes b (sent one_add) first → Takes c (delivered one_add) second → quote_in second index ≡ shows (200 at 1234500) no_level
  shows_an_add all rest =
      let same : (view b).market ≡ market = ap (λ (v : View). v.market) (has_view p) in
      (demand one_add _ _ (record { given = given_one_add p q; all = all; rest = rest })).quotes_the_book index (rw (has_view p) (computed market).registered) (rw same (computed market).none_lost)
      ∙ ap (λ (k : Market). quoted_if false (book_of pillar index (feed_of k one_add))) same ∙ (computed market).book

  -- so it is none that calls the symbol stale
  pub no_stale_readers : {first second : Book} → Takes b (sent one_add) first → Takes c (delivered one_add) second → quote_in second index ≡ no_quote 8 → ⊥
  no_stale_readers all rest stale = let z : ◌≡◌ {A = ℕ} 8 0 = ap (λ (x : Quote). x.answer) (sym stale ∙ shows_an_add all rest) in omega (arith, z)

-- and two idle readers that agree are none either
pub no_idle_readers : {market : Market} {b c : Book} → HasABC market b → HasABC market c → Demand3 (λ s ms r. r ≡ s) b c → ⊥
no_idle_readers {market = market} {c = c} p q demand =
    let shown : shows no_level no_level ≡ shows (200 at 1234500) no_level = sym (ap (quote_of index) (has_view q) ∙ (computed market).before) ∙ shows_an_add (λ s ms r. r ≡ s) demand p q refl refl in
    let bid : ◌≡◌ {A = sides.Option Level} no_level (200 at 1234500) = ap (λ (x : Quote). x.bid) shown in
    let z : ◌≡◌ {A = ℕ} 0 1 = cc in
    omega arith

-- ---- the same of the depth: the first row of a reader that meets its demand is the add
module _ (Takes : Book → List (List ℕ) → Book → Type 0) {market : Market} {b c : Book} (demand : Demand3OfDepth Takes b c) (p : HasABC market b) (q : HasABC market c) where
  shows_a_row : {first second : Book} → Takes b (sent one_add) first → Takes c (delivered one_add) second → as_level (row_at (depth_in second index).bids 0) ≡ 200 at 1234500
  shows_a_row all rest =
      let same : (view b).market ≡ market = ap (λ (v : View). v.market) (has_view p) in
      let deep = (demand one_add _ _ (record { given = given_one_add p q; all = all; rest = rest })).shows_the_book index (rw (has_view p) (computed market).registered) (rw same (computed market).none_lost) in
      ap (λ (d : Depth). as_level (row_at d.bids 0)) deep
      ∙ first_row_is_the_level true (book_of pillar index (feed_of (view b).market one_add))
      ∙ ap (λ (k : Market). level_of true (book_of pillar index (feed_of k one_add))) same
      ∙ ap (λ (x : Quote). x.bid) (computed market).book

  no_row_lem : {first second : Book} → Takes b (sent one_add) first → Takes c (delivered one_add) second → as_level (row_at (depth_in second index).bids 0) ≡ no_level → ⊥
  no_row_lem all rest none =
      let bid : ◌≡◌ {A = sides.Option Level} no_level (200 at 1234500) = sym none ∙ shows_a_row all rest in
      let z : ◌≡◌ {A = ℕ} 0 1 = cc in
      omega arith

  -- one that calls the symbol stale has none
  pub no_stale_depths : {first second : Book} → Takes b (sent one_add) first → Takes c (delivered one_add) second → depth_in second index ≡ no_depth 8 → ⊥
  no_stale_depths all rest stale = no_row_lem all rest (ap (λ (d : Depth). as_level (row_at d.bids 0)) stale)

-- and an idle one neither: its first row is that of its quote
pub no_idle_depths : {market : Market} {b c : Book} → HasABC market b → HasABC market c → Demand3OfDepth (λ s ms r. r ≡ s) b c → ⊥
no_idle_depths {market = market} {c = c} p q demand =
    no_row_lem (λ s ms r. r ≡ s) demand p q refl refl
    ((first_row_is_the_quote (view c) index).level true ∙ ap (λ (v : View). (quote_of index v).bid) (has_view q) ∙ ap (λ (x : Quote). x.bid) (computed market).before)

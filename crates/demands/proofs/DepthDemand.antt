-- Demand 3 of the depth. A quote shows of the orders no more than a level a side, so demand 3 is asked again of the same reader under the same rules where all the live orders are shown.
use mathlib.Core.Bool.{Bool, true, false}
use mathlib.Core.List.{List}
use mathlib.Core.Option.{Option, none, some}
use mathlib.Core.Path.{◌≡◌, refl, sym, ap, ◌∙◌}
use Prim.Native.Nat.{ℕ}
use Rattle.feed.specs.Reader.{Act, clearing, numbered, index_of, Rules, Kept, Reply, Showing, refused, shown, meets, answer_of, after_of, showing_of, New, unregistered, registered, Reader, quote}
use Rattle.feed.specs.Feed.{Feed, heard, lost, start, ◌▷◌, first, second, Accepted}
use Rattle.feed.specs.Feed as feed
use Rattle.feed.specs.Book.{book_after, book_of}
use Rattle.feed.specs.Demand3 as feed_demand
use Rattle.feed.proofs.Demand3.{demand_3}
use Rattle.book.specs.State.{Symbol, View, view, symbol_in}
use Rattle.book.specs.Depth.{no_depth, depth_if, depth_by, depth_of}
use Rattle.book.specs.Walk.{AllComplete}
use Rattle.book.specs.declared.Book.{Book}
use Rattle.book.specs.declared.depth.Depth.{Depth}
use Rattle.demands.specs.Reader.{pillar, Orders, kept_of, kept_if, kept_in}
use Rattle.demands.specs.ByteFeed.{ByteFeed, sent, delivered, feed_of}
use Rattle.demands.specs.Demand3.{Reads, RunsOver, Given}
use Rattle.demands.specs.Depth.{depth_in, Demand3OfDepth}
use Rattle.demands.proofs.Reader.{reader}
use Rattle.demands.proofs.Starting.{began_wf}
use Rattle.demands.proofs.Laying.{sent_complete, delivered_complete}
use Rattle.demands.proofs.Moments.{given_at}
use Rattle.demands.proofs.Translating.{first_steps, second_steps, is_registered, given_feed}
use Rattle.demands.proofs.Demand3.{reads_after, run_reads}

-- ---- the same rules, with all the orders shown
module _ (R : Rules) where
  abbrev whole : Rules
  whole = record { Orders = R.Orders; Effect = R.Effect; Shown = R.Orders; empty = R.empty; apply = R.apply; shows = λ orders. orders }

  meets_same : (k : Kept R.Orders) (m : Act R.Effect) → meets R k m ≡ meets whole k m
  unfolding meets
  meets_same k (clearing index next) = refl
  meets_same k (numbered index number effect) = refl

  answer_same : (a : Option (Kept R.Orders)) (m : Act R.Effect) → answer_of R a m ≡ answer_of whole a m
  unfolding answer_of
  answer_same none m = refl
  answer_same (some k) m = ap (λ (r : Reply R.Orders). r.answer) (meets_same k m)

  after_same : (a : Option (Kept R.Orders)) (m : Act R.Effect) → after_of R a m ≡ after_of whole a m
  unfolding after_of
  after_same none m = refl
  after_same (some k) m = ap (λ (r : Reply R.Orders). some r.after) (meets_same k m)

  new_same : {a : Option (Kept R.Orders)} → New R a → New whole a
  new_same unregistered = unregistered
  new_same registered = registered

  after_book_same : (orders : R.Orders) (m : Act R.Effect) → book_after R orders m ≡ book_after whole orders m
  unfolding book_after
  after_book_same orders (clearing index next) = refl
  after_book_same orders (numbered index number effect) = refl

  book_same : (i : ℕ) (f : Feed R.Effect) → book_of R i f ≡ book_of whole i f
  unfolding book_of
  book_same i start = refl
  book_same i (f ▷ heard m) = rw (book_same i f, after_book_same (book_of whole i f) m)
  book_same i (f ▷ lost m) = rw (book_same i f, after_book_same (book_of whole i f) m)

  -- a reader under the one is a reader under the other, and takes the same steps
  module _ (D : Reader R) where
    abbrev wide : Reader whole
    wide = record {
      State = D.State;
      kept = D.kept;
      answer = D.answer;
      step = D.step;
      says = λ s m. D.says s m ∙ answer_same (D.kept s (index_of m)) m;
      own = λ s m. D.own s m ∙ after_same (D.kept s (index_of m)) m;
      other = D.other;
    }

    first_same : (s : D.State) (f : Feed R.Effect) → first R D s f ≡ first whole wide s f
    unfolding first
    first_same s start = refl
    first_same s (f ▷ heard m) = ap (λ (t : D.State). D.step t m) (first_same s f)
    first_same s (f ▷ lost m) = ap (λ (t : D.State). D.step t m) (first_same s f)

    second_same : (s : D.State) (f : Feed R.Effect) → second R D s f ≡ second whole wide s f
    unfolding second
    second_same s start = refl
    second_same s (f ▷ heard m) = ap (λ (t : D.State). D.step t m) (second_same s f)
    second_same s (f ▷ lost m) = second_same s f

    accepted_same : (s : D.State) (f : Feed R.Effect) → Accepted R D s f → Accepted whole wide s f
    unfolding Accepted
    accepted_same s start a = tt
    accepted_same s (f ▷ heard m) a = (accepted_same s f a.0, ap (λ (t : D.State). D.answer t m) (sym (first_same s f)) ∙ a.1)
    accepted_same s (f ▷ lost m) a = (accepted_same s f a.0, ap (λ (t : D.State). D.answer t m) (sym (first_same s f)) ∙ a.1)

    given_same : {s t : D.State} {f : Feed R.Effect} → feed.Given R D s t f → feed.Given whole wide s t f
    given_same {s = s} {f = f} g = record {
      first_new = λ i. new_same (g.first_new i);
      second_new = λ i. new_same (g.second_new i);
      same_symbols = g.same_symbols;
      accepted = accepted_same s f g.accepted;
      clears_heard = g.clears_heard;
    }

-- ---- a depth of the book is of what is kept
unfoldable as_depth : Showing Orders → Depth
as_depth (refused answer) = no_depth answer
as_depth (shown orders) = depth_if false orders

depths_kept : (v : View) (index : ℕ) → depth_of index v ≡ as_depth (showing_of (whole pillar) (kept_in v index))
unfolding depth_of kept_in as_depth showing_of
depths_kept v index = go (symbol_in index v)
  where
    given_stale : (s : Symbol) (stale : Bool) → s.entry.standing.stale ≡ stale → depth_by (some s) ≡ as_depth (showing_of (whole pillar) (some (kept_of s)))
    given_stale s true e = rw e
    given_stale s false e = rw e

    go : (x : Option Symbol) → depth_by x ≡ as_depth (showing_of (whole pillar) (kept_if x))
    go none = refl
    go (some s) = given_stale s s.entry.standing.stale refl

-- ---- any way of giving a reader complete messages that is one by calls
module _ (Takes : Book → List (List ℕ) → Book → Type 0) (reads : (b r : Book) (ms : List (List ℕ)) → AllComplete ms → Takes b ms r → Reads b ms r) (b c : Book) where
  module _ {f : ByteFeed} (g : Given b c f) where
    first_depth : {r : Book} → Takes b (sent f) r → (index : ℕ) → depth_in r index ≡ as_depth (quote (whole pillar) (wide pillar reader) (first (whole pillar) (wide pillar reader) (view b) (feed_of (view b).market f)) index)
    first_depth t index =
        ap (depth_of index) ((reads_after (began_wf g.first_began) (reads b _ (sent f) (sent_complete f g.complete) t)).seen ∙ first_steps (view b) f g.applied ∙ first_same pillar reader (view b) (feed_of (view b).market f))
        ∙ depths_kept (first (whole pillar) (wide pillar reader) (view b) (feed_of (view b).market f)) index

    second_depth : {r : Book} → Takes c (delivered f) r → (index : ℕ) → depth_in r index ≡ as_depth (quote (whole pillar) (wide pillar reader) (second (whole pillar) (wide pillar reader) (view c) (feed_of (view b).market f)) index)
    second_depth t index =
        ap (depth_of index) ((reads_after (began_wf g.second_began) (reads c _ (delivered f) (delivered_complete f g.complete) t)).seen ∙ second_steps (view b) (view c) (sym g.same_market) f g.applied ∙ second_same pillar reader (view c) (feed_of (view b).market f))
        ∙ depths_kept (second (whole pillar) (wide pillar reader) (view c) (feed_of (view b).market f)) index

  abbrev of_orders : feed_demand.Demand3 (whole pillar) (wide pillar reader) (view b) (view c)
  of_orders = demand_3 (whole pillar) (wide pillar reader) (view b) (view c)

  demanded_of_depth : Demand3OfDepth Takes b c
  unfolding as_depth
  demanded_of_depth f _ _ n =
      let given = given_same pillar reader (given_feed b c f n.given) in
      let now = first_depth n.given n.all in
      let hearing = second_depth n.given n.rest in
      let booked : (index : ℕ) → _ = λ index. ap (depth_if false) (sym (book_same pillar index (feed_of (view b).market f))) in
      record {
        nothing_lost = λ index l. hearing index ∙ ap as_depth (of_orders.nothing_lost index given l) ∙ sym (now index);
        shows_the_book = λ index y l. hearing index ∙ ap as_depth (of_orders.quotes_the_book index given (is_registered (view b) index y) l) ∙ booked index;
        first_shows_the_book = λ index y. now index ∙ ap as_depth (of_orders.first_quotes_the_book index given (is_registered (view b) index y)) ∙ booked index;
        after_a_loss = λ index m before l. hearing index ∙ ap as_depth (of_orders.after_a_loss index given l) ∙ sym (first_depth (given_at b c m n.given) before index);
        refused_until_a_clear = λ index u. hearing index ∙ ap as_depth (of_orders.refused_until_a_clear index given u);
        from_that_clear_on = λ index s. hearing index ∙ ap as_depth (of_orders.from_that_clear_on index given s) ∙ sym (now index);
      }

-- DEMAND 3 of the depth, for readers that are given the feed by any calls,
pub demand_3_of_depth_holds : (b c : Book) → Demand3OfDepth Reads b c
demand_3_of_depth_holds = demanded_of_depth Reads (λ b r ms a p. p)

-- and from bytes
pub demand_3_of_depth_from_bytes : (b c : Book) → Demand3OfDepth RunsOver b c
demand_3_of_depth_from_bytes = demanded_of_depth RunsOver (λ b r ms a p. run_reads a p)

-- Demand 3 clause by clause, in the order of document 00: each is a clause of `demand_3_holds`, at a moment f of the feed at which both readers stand.
use mathlib.Core.Bool.{false}
use mathlib.Core.List.{List}
use mathlib.Core.Path.{◌≡◌}
use Prim.Native.Nat.{ℕ}
use Rattle.feed.specs.Reader.{clearing}
use Rattle.feed.specs.Feed.{Feed, ◌▷◌, heard}
use Rattle.feed.specs.Book.{book_of}
use Rattle.feed.specs.Demand3.{NoneLost, AfterLoss, UntilClear, Since, NotLost}
use Rattle.book.specs.State.{view}
use Rattle.book.specs.Quote.{no_quote, quoted_if}
use Rattle.book.specs.Walk.{Moves}
use Rattle.book.specs.declared.Book.{Book}
use Rattle.book.specs.declared.walk.Moved.{Moved}
use Rattle.demands.specs.Reader.{pillar, Effect, Registered}
use Rattle.demands.specs.ByteFeed.{ByteFeed, hears, sent, Moment, feed_of}
use Rattle.demands.specs.Demand3.{StandsAt, Reads, Given, AnsweredAs, Now, quote_in}
use Rattle.demands.proofs.Demand3.{demand_3_holds}

module _ (b c : Book) (f : ByteFeed) (first second : Book) (at : Now Reads b c f first second) (index : ℕ) where
  pub nothing_lost : NoneLost index (feed_of (view b).market f) → quote_in second index ≡ quote_in first index
  nothing_lost = (demand_3_holds b c f first second at).nothing_lost index

  pub nothing_lost_quotes_the_book : Registered index (view b) → NoneLost index (feed_of (view b).market f) → quote_in second index ≡ quoted_if false (book_of pillar index (feed_of (view b).market f))
  nothing_lost_quotes_the_book = (demand_3_holds b c f first second at).quotes_the_book index

  pub after_a_loss_as_just_before : {h : ByteFeed} {before : Book} → Moment h f → Reads b (sent h) before → AfterLoss index (feed_of (view b).market h) (feed_of (view b).market f) → quote_in second index ≡ quote_in before index
  after_a_loss_as_just_before = (demand_3_holds b c f first second at).after_a_loss index

  pub then_refused_until_a_clear : UntilClear index (feed_of (view b).market f) → quote_in second index ≡ no_quote 8
  then_refused_until_a_clear = (demand_3_holds b c f first second at).refused_until_a_clear index

  pub from_that_clear_on : {next : ℕ} {h : Feed Effect} → Since (NotLost index) (h ▷ heard (clearing index next)) (feed_of (view b).market f) → quote_in second index ≡ quote_in first index
  from_that_clear_on = (demand_3_holds b c f first second at).from_that_clear_on index

pub answered_0_then_7_then_8 : (b c : Book) (f : ByteFeed) (first second : Book) → Now Reads b c f first second → {s : List ℕ} {at : ℕ} {m : List ℕ} {r : Moved}
    → Given b c (hears f m) → StandsAt s at m → Moves second s at r → AnsweredAs (view b).market f m r.answer
answered_0_then_7_then_8 b c f first second at = (demand_3_holds b c f first second at).answers

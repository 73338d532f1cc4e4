-- The moments of a feed are its beginnings: what is given of a feed is given of them, and `feed` finds a symbol in one of three standings at each.
use Prim.Native.Nat.{ℕ}
use native.Mathlib.Omega.{arith}
use mathlib.Core.List.{List}
use mathlib.Core.Option.{Option, none, some}
use mathlib.Core.Path.{◌≡◌, refl}
use Rattle.markets.specs.declared.Market.{Market}
use Rattle.feed.specs.Reader.{Act}
use Rattle.feed.specs.Feed.{Item, Feed, ◌▷◌, heard, lost, Phase, phase}
use Rattle.feed.specs.Demand3.{Since, here, more, AfterLoss, Stands}
use Rattle.feed.specs.Demand3 as feed
use Rattle.feed.proofs.Words as words
use Rattle.book.specs.declared.Book.{Book}
use Rattle.demands.specs.Reader.{Effect}
use Rattle.demands.specs.ByteFeed.{ByteFeed, begins, hears, loses, Moment, now, then_hears, then_loses, Complete, Applied, ClearsDelivered, act_in, goes_on, feed_of}
use Rattle.demands.specs.Demand3.{Given, Stage, none_lost, after_loss, until_clear}

module _ (b c : Book) where
  -- what is given of a feed is given of its every moment
  before_hears : {f : ByteFeed} {m : List ℕ} → Given b c (hears f m) → Given b c f
  unfolding Complete Applied ClearsDelivered
  before_hears g = record {
    first_began = g.first_began;
    second_began = g.second_began;
    same_market = g.same_market;
    same_symbols = g.same_symbols;
    complete = g.complete.0;
    applied = g.applied.0;
    clears_delivered = g.clears_delivered;
  }

  before_loses : {f : ByteFeed} {m : List ℕ} → Given b c (loses f m) → Given b c f
  unfolding Complete Applied ClearsDelivered
  before_loses g = record {
    first_began = g.first_began;
    second_began = g.second_began;
    same_market = g.same_market;
    same_symbols = g.same_symbols;
    complete = g.complete.0;
    applied = g.applied.0;
    clears_delivered = g.clears_delivered.0;
  }

  pub given_at : {h f : ByteFeed} → Moment h f → Given b c f → Given b c h
  given_at now g = g
  given_at (then_hears m) g = given_at m (before_hears g)
  given_at (then_loses m) g = given_at m (before_loses g)

-- ---- a moment of the feed in messages is a moment of the feed in bytes
record Found (market : Market) (g : Feed Effect) (f : ByteFeed) : Type 0 where
  pub moment : ByteFeed
  pub earlier : Moment moment f
  pub is : feed_of market moment ≡ g

-- before a message that says nothing the feed is the same
found_before : (market : Market) (g x : Feed Effect) (it : Item Effect) (f : ByteFeed) (way : Act Effect → Item Effect) → (feed_of market f ≡ x → Found market g f) → (feed_of market f ≡ x ▷ it → Found market g f)
    → (said : Option (Act Effect)) → goes_on (feed_of market f) way said ≡ x ▷ it → Found market g f
found_before market g x it f way one same none e = same e
found_before market g x it f way one same (some a) e = one (cc)

found_more : (market : Market) (g x : Feed Effect) (it : Item Effect) → ((f : ByteFeed) → feed_of market f ≡ x → Found market g f) → (f : ByteFeed) → feed_of market f ≡ x ▷ it → Found market g f
unfolding feed_of
found_more market g x it ih begins e = absurd (let z : ◌≡◌ {A = ℕ} 0 1 = cc in omega arith)
found_more market g x it ih (hears f m) e = let i = found_before market g x it f heard (ih f) (found_more market g x it ih f) (act_in market m) e in record { moment = i.moment; earlier = then_hears i.earlier; is = i.is }
found_more market g x it ih (loses f m) e = let i = found_before market g x it f lost (ih f) (found_more market g x it ih f) (act_in market m) e in record { moment = i.moment; earlier = then_loses i.earlier; is = i.is }

found : (market : Market) {P : Item Effect → Type 0} {g x : Feed Effect} → Since P g x → (f : ByteFeed) → feed_of market f ≡ x → Found market g f
found market here f e = record { moment = f; earlier = now; is = e }
found market {g = g} (more {f = x} {it = it} r p) f e = found_more market g x it (found market r) f e

-- the moment just before a loss
earlier_still : {k : ByteFeed} {m : List ℕ} {f : ByteFeed} → Moment (loses k m) f → Moment k f
earlier_still now = then_loses now
earlier_still (then_hears p) = then_hears (earlier_still p)
earlier_still (then_loses p) = then_loses (earlier_still p)

before_heard : {k : ByteFeed} {m : List ℕ} {f : ByteFeed} → Moment (hears k m) f → Moment k f
before_heard now = then_hears now
before_heard (then_hears p) = then_hears (before_heard p)
before_heard (then_loses p) = then_loses (before_heard p)

module _ (market : Market) (index : ℕ) (f : ByteFeed) where
  before_loss : (h : Feed Effect) (message : _) → AfterLoss index h (feed_of market f) → (k : ByteFeed) → Moment k f → feed_of market k ≡ h ▷ lost message → Stage market index f
  unfolding feed_of
  before_loss h message a begins p e = absurd (let z : ◌≡◌ {A = ℕ} 0 1 = cc in omega arith)
  before_loss h message a (hears k m) p e = go (before_loss h message a k (before_heard p)) (act_in market m) e
    where
      go : (feed_of market k ≡ h ▷ lost message → Stage market index f) → (said : Option (Act Effect)) → goes_on (feed_of market k) heard said ≡ h ▷ lost message → Stage market index f
      go ih none q = ih q
      go ih (some x) q = absurd (let i : heard x ≡ lost message = cc in let z : ◌≡◌ {A = ℕ} 0 1 = cc in omega arith)
  before_loss h message a (loses k m) p e = go (before_loss h message a k (earlier_still p)) (act_in market m) e
    where
      go : (feed_of market k ≡ h ▷ lost message → Stage market index f) → (said : Option (Act Effect)) → goes_on (feed_of market k) lost said ≡ h ▷ lost message → Stage market index f
      go ih none q = ih q
      go ih (some x) q = let i : feed_of market k ≡ h = cc in after_loss (earlier_still p) (rw i a)

  pub every_moment : Stage market index f
  every_moment = go (phase index (feed_of market f)) (words.every_moment index (feed_of market f))
    where
      go : (p : Phase Effect) → Stands index (feed_of market f) p → Stage market index f
      go _ (feed.none_lost n) = none_lost n
      go _ (feed.after_loss {h = h} a) = let x = found market a.since f refl in before_loss h a.message a x.moment x.earlier x.is
      go _ (feed.until_clear u) = until_clear u

-- A message that is done was read, so that a feed of bytes that is applied is a feed of messages, and stepping over the bytes is stepping over the messages.
use mathlib.Core.List.{List, [], ◌∷◌, ◌++◌}
use mathlib.Core.Option.{Option, none, some, IsSome}
use mathlib.Core.Path.{◌≡◌, refl, sym, ap, ◌∙◌, subst}
use Prim.Native.Nat.{ℕ}
use native.Mathlib.Omega.{arith}
use Rattle.wire.specs.Outcome.{Outcome, done, refused}
use Rattle.wire.specs.Reading.{msg_type, read_of}
use Rattle.wire.specs.Message.{type_of}
use Rattle.wire.specs.declared.Message.{Message}
use Rattle.markets.specs.declared.Market.{Market}
use Rattle.feed.specs.Reader.{Act, clearing, numbered}
use Rattle.feed.specs.Feed.{Item, heard, lost, Feed, ◌▷◌, ClearsHeard, Accepted, first, second}
use Rattle.feed.specs.Feed as feed
use Rattle.book.specs.State.{Symbol, View, Next, view, symbol_in}
use Rattle.book.specs.Step.{act_on, meant, step_on, step_of, step_in}
use Rattle.book.specs.Walk.{steps_of}
use Rattle.book.specs.declared.Book.{Book}
use Rattle.book.proofs.Walking.{steps_join}
use Rattle.book.proofs.OneMarket.{steps_market}
use Rattle.demands.specs.Reader.{pillar, Effect, kept_if, kept_in, Registered}
use Rattle.demands.specs.ByteFeed.{ByteFeed, begins, hears, loses, sent, delivered, Applied, ClearsDelivered, said, act_in, goes_on, feed_of, IsDone}
use Rattle.demands.specs.Demand3.{Given}
use Rattle.demands.proofs.Reader.{reader}
use Rattle.wire.proofs.Answers.{Tells, read_tells}
use Rattle.demands.proofs.Starting.{began_new}

-- ---- one message
-- it says something
pub record Says (market : Market) (m : List ℕ) : Type 0 where
  pub act : Act Effect
  pub is : act_in market m ≡ some act

done_says : (v : View) (m : List ℕ) → (step_in v m).answer ≡ 0 → Says v.market m
unfolding step_of
done_says v m e = go (read_of v.market m).outcome refl (read_tells m v.market) e
  where
    go : (x : Outcome Message) → (read_of v.market m).outcome ≡ x → Tells (msg_type m) x → (step_on v x).answer ≡ 0 → Says v.market m
    go (done y) q t z = record { act = meant y; is = ap said q }
    go (refused a) q t z = absurd (omega (arith, t.0, z))

nothing_said : {A : Type 0} (a : Act Effect) → ◌≡◌ {A = Option (Act Effect)} none (some a) → A
nothing_said a e = absurd (let z : ◌≡◌ {A = ℕ} 0 1 = cc in omega arith)

step_acts : (v : View) (m : List ℕ) (a : Act Effect) → act_in v.market m ≡ some a → step_in v m ≡ act_on v a
unfolding step_of
step_acts v m a = go (read_of v.market m).outcome
  where
    go : (x : Outcome Message) → said x ≡ some a → step_on v x ≡ act_on v a
    go (done y) e = let same : meant y ≡ a = cc in ap (act_on v) same
    go (refused n) e = nothing_said a e

-- what is numbered in bytes is numbered as an act
abbrev Numbered : Act Effect → Type 0
Numbered (clearing index next) = ⊥
Numbered (numbered index number effect) = Unit {0}

meant_numbered : (m : Message) → (type_of m ≡ 32 → ⊥) → Numbered (meant m)
unfolding meant
meant_numbered (Message.Add h n p v side) ne = tt
meant_numbered (Message.Modify h n p v position side) ne = tt
meant_numbered (Message.Delete h n) ne = tt
meant_numbered (Message.Execute h n t p v printable) ne = tt
meant_numbered (Message.Replace h old n p v side) ne = tt
meant_numbered (Message.Imbalance h seconds) ne = tt
meant_numbered (Message.NonDisplayed h t p v printable) ne = tt
meant_numbered (Message.Cross h cross p v class) ne = tt
meant_numbered (Message.TradeCancel h t) ne = tt
meant_numbered (Message.CrossCorrection h cross v) ne = tt
meant_numbered (Message.Retail h indicator) ne = tt
meant_numbered (Message.Clear h seconds) ne = ne refl
meant_numbered (Message.Status h seconds) ne = tt

act_numbered : (market : Market) (m : List ℕ) (a : Act Effect) → act_in market m ≡ some a → (msg_type m ≡ 32 → ⊥) → Numbered a
act_numbered market m a e ne = go (read_of market m).outcome (read_tells m market) e
  where
    go : (x : Outcome Message) → Tells (msg_type m) x → said x ≡ some a → Numbered a
    go (done y) t q = let same : meant y ≡ a = cc in subst Numbered same (meant_numbered y (λ z. ne (sym t ∙ z)))
    go (refused n) t q = nothing_said a q

-- ---- lists of messages
pub steps_last : (v : View) (ms : List (List ℕ)) (m : List ℕ) → steps_of v (ms ++ m ∷ []) ≡ (step_in (steps_of v ms) m).view
unfolding steps_of
steps_last v ms m = steps_join v ms (m ∷ [])

-- after messages of a market it is still read as that market's
says_after : (market : Market) (v : View) (ms : List (List ℕ)) (m : List ℕ) → v.market ≡ market → (a : Act Effect) → act_in market m ≡ some a → act_in (steps_of v ms).market m ≡ some a
says_after market v ms m same a e = ap (λ (k : Market). act_in k m) (steps_market v ms ∙ same) ∙ e

acts_last : (market : Market) (v w : View) (ms : List (List ℕ)) (m : List ℕ) → v.market ≡ market → (s : Says market m) → steps_of v ms ≡ w → steps_of v (ms ++ m ∷ []) ≡ (act_on w s.act).view
acts_last market v w ms m same s e = steps_last v ms m ∙ ap (λ (x : Next). x.view) (step_acts (steps_of v ms) m s.act (says_after market v ms m same s.act s.is)) ∙ ap (λ (x : View). (act_on x s.act).view) e

-- what holds of a feed and then what the message says holds of the feed with the message
goes_on_lem : (P : Feed Effect → Type 0) (market : Market) (f : ByteFeed) (m : List ℕ) (s : Says market m) (way : Act Effect → Item Effect) → P (feed_of market f ▷ way s.act) → P (goes_on (feed_of market f) way (act_in market m))
goes_on_lem P market f m s way h = subst (λ (x : Option (Act Effect)). P (goes_on (feed_of market f) way x)) (sym s.is) h

-- ---- the two readers, of the first one's market
module _ (v : View) where
  abbrev market : Market
  market = v.market

  says : (f : ByteFeed) (m : List ℕ) → IsDone v (sent f) m → Says market m
  says f m d =
      let s = done_says (steps_of v (sent f)) m d in
      record { act = s.act; is = ap (λ (k : Market). act_in k m) (sym (steps_market v (sent f))) ∙ s.is }

  pub first_steps : (f : ByteFeed) → Applied v f → steps_of v (sent f) ≡ first pillar reader v (feed_of market f)
  unfolding Applied sent feed_of first steps_of
  first_steps begins a = refl
  first_steps (hears f m) a =
      let s = says f m a.1 in
      goes_on_lem (λ (g : Feed Effect). steps_of v (sent f ++ m ∷ []) ≡ first pillar reader v g) market f m s heard (acts_last market v (first pillar reader v (feed_of market f)) (sent f) m refl s (first_steps f a.0))
  first_steps (loses f m) a =
      let s = says f m a.1 in
      goes_on_lem (λ (g : Feed Effect). steps_of v (sent f ++ m ∷ []) ≡ first pillar reader v g) market f m s lost (acts_last market v (first pillar reader v (feed_of market f)) (sent f) m refl s (first_steps f a.0))

  module _ (w : View) (same : w.market ≡ market) where
    pub second_steps : (f : ByteFeed) → Applied v f → steps_of w (delivered f) ≡ second pillar reader w (feed_of market f)
    unfolding Applied delivered feed_of second steps_of
    second_steps begins a = refl
    second_steps (hears f m) a =
        let s = says f m a.1 in
        goes_on_lem (λ (g : Feed Effect). steps_of w (delivered f ++ m ∷ []) ≡ second pillar reader w g) market f m s heard (acts_last market w (second pillar reader w (feed_of market f)) (delivered f) m same s (second_steps f a.0))
    second_steps (loses f m) a = goes_on_lem (λ (g : Feed Effect). steps_of w (delivered f) ≡ second pillar reader w g) market f m (says f m a.1) lost (second_steps f a.0)

  -- what the second reader does with a message of the feed that it hears
  pub heard_says : (f : ByteFeed) (m : List ℕ) → Applied v (hears f m) → Says market m
  unfolding Applied
  heard_says f m a = says f m a.1

  pub heard_acts : (f : ByteFeed) (m : List ℕ) (a : Applied v (hears f m)) (w : View) → w.market ≡ market → step_in w m ≡ act_on w (heard_says f m a).act
  heard_acts f m a w same = step_acts w m (heard_says f m a).act (ap (λ (k : Market). act_in k m) same ∙ (heard_says f m a).is)

  next_accepted : (f : ByteFeed) (m : List ℕ) → Applied v f → (d : IsDone v (sent f) m) → (act_on (first pillar reader v (feed_of market f)) (says f m d).act).answer ≡ 0
  next_accepted f m a d =
      let s = says f m d in
      ap (λ (x : View). (act_on x s.act).answer) (sym (first_steps f a))
      ∙ sym (ap (λ (x : Next). x.answer) (step_acts (steps_of v (sent f)) m s.act (says_after market v (sent f) m refl s.act s.is))) ∙ d

  feed_accepted : (f : ByteFeed) → Applied v f → Accepted pillar reader v (feed_of market f)
  unfolding Applied feed_of Accepted
  feed_accepted begins a = tt
  feed_accepted (hears f m) a = goes_on_lem (Accepted pillar reader v) market f m (says f m a.1) heard (feed_accepted f a.0, next_accepted f m a.0 a.1)
  feed_accepted (loses f m) a = goes_on_lem (Accepted pillar reader v) market f m (says f m a.1) lost (feed_accepted f a.0, next_accepted f m a.0 a.1)

  lost_numbered : (g : Feed Effect) (x : Act Effect) → Numbered x → ClearsHeard g → ClearsHeard (g ▷ lost x)
  unfolding ClearsHeard
  lost_numbered g (clearing index next) n c = absurd n
  lost_numbered g (numbered index number effect) n c = c

  clears_heard : (f : ByteFeed) → Applied v f → ClearsDelivered f → ClearsHeard (feed_of market f)
  unfolding Applied ClearsDelivered feed_of ClearsHeard
  clears_heard begins a c = tt
  clears_heard (hears f m) a c = goes_on_lem ClearsHeard market f m (says f m a.1) heard (clears_heard f a.0 c)
  clears_heard (loses f m) a c =
      let s = says f m a.1 in
      goes_on_lem ClearsHeard market f m s lost (lost_numbered (feed_of market f) s.act (act_numbered market m s.act s.is c.1) (clears_heard f a.0 c.0))

-- ---- what is given of the bytes is given of the feed
kept_registered : (x : Option Symbol) → IsSome (kept_if x) → IsSome x
kept_registered none y = y
kept_registered (some s) y = tt

registered_kept : (x : Option Symbol) → IsSome x → IsSome (kept_if x)
registered_kept none y = y
registered_kept (some s) y = tt

pub is_registered : (v : View) (index : ℕ) → Registered index v → IsSome (kept_in v index)
unfolding kept_in
is_registered v index y = registered_kept (symbol_in index v) y

pub given_feed : (b c : Book) (f : ByteFeed) → Given b c f → feed.Given pillar reader (view b) (view c) (feed_of (view b).market f)
unfolding kept_in
given_feed b c f g = record {
  first_new = began_new g.first_began;
  second_new = began_new g.second_began;
  same_symbols = λ i. (
    (λ y. registered_kept (symbol_in i (view c)) ((g.same_symbols i).0 (kept_registered (symbol_in i (view b)) y))),
    (λ y. registered_kept (symbol_in i (view b)) ((g.same_symbols i).1 (kept_registered (symbol_in i (view c)) y))),
  );
  accepted = feed_accepted (view b) f g.applied;
  clears_heard = clears_heard (view b) f g.applied g.clears_delivered;
}

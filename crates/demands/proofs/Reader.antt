-- The rules that the contracts cite are a reader of `feed`: of its own symbol a message keeps what feed's rule says, and of the others all.
use mathlib.Core.Bool.{Bool, true, false}
use mathlib.Core.Option.{Option, none, some}
use mathlib.Core.Path.{◌≡◌, refl, ap}
use Prim.Native.Nat.{ℕ}
use Rattle.feed.specs.Reader.{Ruling, unchanged, made_stale, applied, replied, Act, clearing, numbered, index_of, Reader, answer_of, after_of}
use Rattle.feed.specs.Reader as feed
use Rattle.book.specs.State.{Symbol, View, place_in, symbol_in}
use Rattle.book.specs.Step.{deal_of, enacted, meeting, act_at, act_on}
use Rattle.book.specs.Quote.{quoted, quote_of}
use Rattle.book.proofs.Isolation.{unregistered_stays, own_symbol, own_symbol_only}
use Rattle.demands.specs.Reader.{pillar, Orders, Effect, kept_of, kept_if, kept_in, as_quote}

-- ---- one symbol: name, scale and record are not feed's affair
enacted_answers : (s : Symbol) (d : _) (r : Ruling Orders) → (enacted s d r).answer ≡ (replied (kept_of s) r).answer
unfolding enacted replied
enacted_answers s d (unchanged a) = refl
enacted_answers s d (made_stale a) = refl
enacted_answers s d (applied os) = refl

enacted_as_feed : (s : Symbol) (d : _) (r : Ruling Orders) → kept_of (enacted s d r).symbol ≡ (replied (kept_of s) r).after
unfolding enacted replied
enacted_as_feed s d (unchanged a) = refl
enacted_as_feed s d (made_stale a) = refl
enacted_as_feed s d (applied os) = refl

meeting_answers : (s : Symbol) (m : Act Effect) → (meeting s m).answer ≡ (feed.meets pillar (kept_of s) m).answer
unfolding meeting feed.meets
meeting_answers s (clearing index next) = refl
meeting_answers s (numbered index n e) = enacted_answers s (deal_of e) _

meeting_as_feed : (s : Symbol) (m : Act Effect) → kept_of (meeting s m).symbol ≡ (feed.meets pillar (kept_of s) m).after
unfolding meeting feed.meets
meeting_as_feed s (clearing index next) = refl
meeting_as_feed s (numbered index n e) = enacted_as_feed s (deal_of e) _

-- ---- the eight symbols: feed's three laws
module _ (v : View) (m : Act Effect) where
  pub says : (act_on v m).answer ≡ answer_of pillar (kept_in v (index_of m)) m
  unfolding act_on kept_in answer_of
  says = go (symbol_in (index_of m) v)
    where
      go : (x : Option Symbol) → (act_at v (place_in (index_of m) v) x m).answer ≡ answer_of pillar (kept_if x) m
      go none = refl
      go (some s) = meeting_answers s m

  pub own : kept_in (act_on v m).view (index_of m) ≡ after_of pillar (kept_in v (index_of m)) m
  unfolding kept_in after_of
  own = go (symbol_in (index_of m) v) refl
    where
      go : (x : Option Symbol) → symbol_in (index_of m) v ≡ x → kept_if (symbol_in (index_of m) (act_on v m).view) ≡ after_of pillar (kept_if (symbol_in (index_of m) v)) m
      go none e = rw (unregistered_stays v m e, e)
      go (some s) e = rw (own_symbol v m s e, e) (ap some (meeting_as_feed s m))

  pub other : (i : ℕ) → (i ≡ index_of m → ⊥) → kept_in (act_on v m).view i ≡ kept_in v i
  unfolding kept_in
  other i ne = ap kept_if (own_symbol_only v m i ne)

abbrev pub reader : Reader pillar
reader = record {
  State = View;
  kept = kept_in;
  answer = λ v m. (act_on v m).answer;
  step = λ v m. (act_on v m).view;
  says = says;
  own = own;
  other = other;
}

-- ---- a quote of the book is feed's quote of what is kept
pub quotes_kept : (v : View) (index : ℕ) → quote_of index v ≡ as_quote (feed.showing_of pillar (kept_in v index))
unfolding quote_of kept_in as_quote feed.showing_of
quotes_kept v index = go (symbol_in index v)
  where
    shown : (s : Symbol) (stale : Bool) → s.entry.standing.stale ≡ stale → quoted (some s) ≡ as_quote (feed.showing_of pillar (some (kept_of s)))
    shown s true e = rw e
    shown s false e = rw e

    go : (x : Option Symbol) → quoted x ≡ as_quote (feed.showing_of pillar (kept_if x))
    go none = refl
    go (some s) = shown s s.entry.standing.stale refl

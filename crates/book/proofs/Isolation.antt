-- A message puts its own symbol back at its own place with the same index, so every other index is found where it was, with what was there.
use mathlib.Core.List.{List}
use mathlib.Core.Option.{Option, none, some}
use mathlib.Core.Path.{◌≡◌, refl, ap, ◌∙◌}
use Prim.Native.Nat.{ℕ}
use lib.ListN.{take, drop}
use Rattle.feed.specs.Reader.{Ruling, unchanged, made_stale, applied, Act, clearing, numbered, index_of}
use Rattle.wire.specs.Outcome.{Outcome, done, refused}
use Rattle.wire.specs.Reading.{Read, reach_of, read_of}
use Rattle.wire.specs.declared.Message.{Message}
use Rattle.symbols.proofs.Finding.{put_own, put_others}
use Rattle.book.specs.State.{Symbol, View, view, entry_of, place_in, symbol_in, Wf}
use Rattle.book.specs.Step.{deal_of, enacted, meeting, act_at, act_on, meant, step_on, step_of}
use Rattle.book.specs.Walk.{move_by, move_of, Moves}
use Rattle.book.specs.declared.Book.{Book}
use Rattle.book.specs.declared.walk.Moved.{Moved}
use Rattle.orders.specs.declared.Order.{Order}
use Rattle.book.specs.declared.acts.Effect.{Effect}
use Rattle.record.specs.declared.Deal.{Deal}

-- ---- what a message never changes of its symbol
pub record SameName (s t : Symbol) : Type 0 where
  pub index : t.entry.index ≡ s.entry.index
  pub name : t.entry.name ≡ s.entry.name
  pub len : t.entry.len ≡ s.entry.len
  pub scale : t.entry.scale ≡ s.entry.scale

enacted_keeps_name : (s : Symbol) (d : Deal) (r : Ruling (List Order)) → SameName s (enacted s d r).symbol
unfolding enacted
enacted_keeps_name s d (unchanged a) = record { index = refl; name = refl; len = refl; scale = refl }
enacted_keeps_name s d (made_stale a) = record { index = refl; name = refl; len = refl; scale = refl }
enacted_keeps_name s d (applied os) = record { index = refl; name = refl; len = refl; scale = refl }

pub meeting_keeps_name : (s : Symbol) (a : Act Effect) → SameName s (meeting s a).symbol
unfolding meeting
meeting_keeps_name s (clearing index next) = record { index = refl; name = refl; len = refl; scale = refl }
meeting_keeps_name s (numbered index n e) = enacted_keeps_name s (deal_of e) _

-- ---- a message
module _ (v : View) (a : Act Effect) where
  pub unregistered_stays : symbol_in (index_of a) v ≡ none → (act_on v a).view ≡ v
  unfolding act_on
  unregistered_stays e = rw e

  pub own_symbol : (s : Symbol) → symbol_in (index_of a) v ≡ some s → symbol_in (index_of a) (act_on v a).view ≡ some (meeting s a).symbol
  unfolding act_on
  own_symbol s e = rw e (put_own entry_of v.places (index_of a) s (meeting s a).symbol e (meeting_keeps_name s a).index)

  -- a message for one symbol changes nothing kept for another
  pub own_symbol_only : (i : ℕ) → (i ≡ index_of a → ⊥) → symbol_in i (act_on v a).view ≡ symbol_in i v
  unfolding act_on
  own_symbol_only i ne = go (symbol_in (index_of a) v) refl
    where
      go : (x : Option Symbol) → symbol_in (index_of a) v ≡ x → symbol_in i (act_at v (place_in (index_of a) v) (symbol_in (index_of a) v) a).view ≡ symbol_in i v
      go none e = rw e
      go (some s) e = rw e (put_others entry_of v.places (index_of a) s (meeting s a).symbol e (meeting_keeps_name s a).index i ne)

-- ---- what was read: a refusal touches nobody, a message its own symbol
module _ (v : View) (d : Read) (i : ℕ) (other : (m : Message) → d.outcome ≡ done m → i ≡ index_of (meant m) → ⊥) where
  pub step_others : symbol_in i (step_of v d).view ≡ symbol_in i v
  unfolding step_of
  step_others = go d.outcome refl
    where
      go : (x : Outcome Message) → d.outcome ≡ x → symbol_in i (step_on v x).view ≡ symbol_in i v
      go (done m) e = own_symbol_only v (meant m) i (other m e)
      go (refused a) e = refl

-- ---- a call on bytes
pub apply_others : (b : Book) (s : List ℕ) (at : ℕ) (r : Moved) → Wf b → Moves b s at r → (i : ℕ)
    → ((n : ℕ) (m : Message) → reach_of (drop at s) ≡ done n → (read_of (view b).market (take n (drop at s))).outcome ≡ done m → i ≡ index_of (meant m) → ⊥)
    → symbol_in i (view r.book) ≡ symbol_in i (view b)
unfolding move_of
apply_others b s at r w p i other = ap (symbol_in i) (p.obeys w).next_view ∙ go (reach_of (drop at s)) refl
  where
    go : (x : Outcome ℕ) → reach_of (drop at s) ≡ x → symbol_in i (move_by x (view b) s at).view ≡ symbol_in i (view b)
    go (done n) e = step_others (view b) (read_of (view b).market (take n (drop at s))) i (λ m f. other n m e f)
    go (refused a) e = refl

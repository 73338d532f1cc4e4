-- Every call hands soundness on, and its promise speaks of the view alone.
use mathlib.Core.Path.{◌≡◌, sym, ap, ◌∙◌}
use Prim.Native.Nat.{ℕ}
use lib.ListN.{drop}
use Rattle.wire.specs.Reading.{reach_of}
use Rattle.book.specs.State.{View, Next, view, Wf}
use Rattle.book.specs.Registering.{register_of, told_in}
use Rattle.book.specs.Quote.{quote_of, volume_of}
use Rattle.book.specs.Depth.{depth_of}
use Rattle.book.specs.Promises.{Obeys}
use Rattle.book.specs.Walk.{offset_by, move_of, run_of}
use Rattle.book.specs.Reached.{Reached, new, registered, applied, ran, Alike}
use Rattle.book.specs.declared.Book.{Book}
use Rattle.book.specs.declared.depth.Depth.{Depth}

pub reached_wf : {b : Book} → Reached b → Wf b
reached_wf (new f) = f.wf
reached_wf (registered index name scale p s) = (s.obeys (reached_wf p)).wf
reached_wf (applied p m) = (m.obeys (reached_wf p)).wf
reached_wf (ran p m) = (m.obeys (reached_wf p)).wf

-- two results that obey one rule
same_next : (x y : Next) (a b : Book) (m n : ℕ) → x ≡ y → Obeys x a m → Obeys y b n → (m ≡ n) × (view a ≡ view b)
same_next x y a b m n e p q = (p.answer ∙ ap (λ (z : Next). z.answer) e ∙ sym q.answer, p.next_view ∙ ap (λ (z : Next). z.view) e ∙ sym q.next_view)

pub alike : (a b : Book) → Wf a → Wf b → view a ≡ view b → Alike a b
alike a b u v e = record {
  registering = λ index name scale q r p s. same_next _ _ _ _ _ _ (ap (λ (x : View). register_of x index name scale) e) (p.obeys u) (s.obeys v);
  applying = λ s at q r p m. let z = same_next _ _ _ _ _ _ (ap (λ (x : View). move_of x s at) e) (p.obeys u) (m.obeys v) in (z.0, p.offset ∙ ap (λ (x : View). offset_by (reach_of (drop at s)) x.market s at) e ∙ sym m.offset, p.at ∙ sym m.at, p.stops ∙ sym m.stops, z.1);
  running = λ s at q r p m. let z = same_next _ _ _ _ _ _ (ap (λ (x : View). run_of x s at) e) (p.obeys u) (m.obeys v) in (z.0, p.at ∙ sym m.at, z.1);
  telling = λ index q r p t. p ∙ ap (told_in index) e ∙ sym t;
  quoting = λ index q r p s. p ∙ ap (quote_of index) e ∙ sym s;
  summing = λ index q r p s. p ∙ ap (volume_of index) e ∙ sym s;
  market = λ q r p s. p ∙ ap (λ (x : View). x.market) e ∙ sym s;
}

-- and a depth is the same of equal views
pub depths_alike : (a b : Book) → view a ≡ view b → (index : ℕ) (q r : Depth) → q ≡ depth_of index (view a) → r ≡ depth_of index (view b) → q ≡ r
depths_alike a b e index q r p s = p ∙ ap (depth_of index) e ∙ sym s

-- A promise speaks of the view alone, so the same calls leave the same views, and states with equal views answer alike.
use mathlib.Core.Path.{◌≡◌, refl, sym, ◌∙◌}
use Rattle.markets.specs.declared.Market.{Market}
use Rattle.book.specs.State.{view, Wf, Fresh}
use Rattle.book.specs.Reached.{Alike}
use Rattle.book.specs.declared.Book.{Book}
use Rattle.book.proofs.Reaching.{reached_wf, alike}
use Rattle.demands.specs.OneOutcome.{Together, new, registered, applied, ran, OneOutcome}

record Same (a b : Book) : Type 0 where
  pub left : Wf a
  pub right : Wf b
  pub views : view a ≡ view b

same_alike : {a b : Book} → Same a b → Alike a b
same_alike {a = a} {b = b} s = alike a b s.left s.right s.views

together_same : {a b : Book} → Together a b → Same a b
together_same (new f g) = record { left = f.wf; right = g.wf; views = f.view_is_new ∙ sym g.view_is_new }
together_same (registered {q = q} {r = r} index name scale t p m) =
    let s = together_same t in
    record { left = (p.obeys s.left).wf; right = (m.obeys s.right).wf; views = ((same_alike s).registering index name scale q r p m).1 }
together_same (applied {s = bytes} {at = at} {q = q} {r = r} t p m) =
    let s = together_same t in
    record { left = (p.obeys s.left).wf; right = (m.obeys s.right).wf; views = ((same_alike s).applying bytes at q r p m).4 }
together_same (ran {s = bytes} {at = at} {q = q} {r = r} t p m) =
    let s = together_same t in
    record { left = (p.obeys s.left).wf; right = (m.obeys s.right).wf; views = ((same_alike s).running bytes at q r p m).2 }

one_new : (market : Market) (a b : Book) → Fresh market a → Fresh market b → a ≡ b
one_new market a b f g = λ i. record { symbols = (f.names ∙ sym g.names) i; orders = (f.orders ∙ sym g.orders) i; trades = (f.trades ∙ sym g.trades) i; market = (f.market ∙ sym g.market) i }

pub one_outcome : OneOutcome
one_outcome = record {
  new = λ {a = a} {b = b} {market = market} f g. one_new market a b f g;
  each_call = λ {b = b} p. alike b b (reached_wf p) (reached_wf p) refl;
  ever_after = λ t. same_alike (together_same t);
}

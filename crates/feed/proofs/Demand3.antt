-- Demand 3: how a symbol stands decides its phase, and the phase what is quoted; and the first reader quotes the book.
use Prim.Native.Nat.{ℕ}
use mathlib.Core.Path.{◌∙◌}
use Rattle.feed.specs.Reader.{Rules, Reader}
use Rattle.feed.specs.Feed.{Feed, Phase, Given}
use Rattle.feed.specs.Demand3.{at_clear, Stands, none_lost, after_loss, until_clear, Quotes, Demand3}
use Rattle.feed.proofs.Phases.{by_phase, answers}
use Rattle.feed.proofs.Words.{stands_only}
use Rattle.feed.proofs.Book.{first_quotes_the_book}

module _ (R : Rules) (D : Reader R) (s₀ t₀ : D.State) where
  quotes_standing : (i : ℕ) {f : Feed R.Effect} {p : Phase R.Effect} → Given R D s₀ t₀ f → Stands i f p → Quotes R D s₀ t₀ i f p
  quotes_standing i g x = rw (stands_only i x) at (by_phase R D s₀ t₀ i g)

  pub demand_3 : Demand3 R D s₀ t₀
  unfolding Quotes
  demand_3 = record {
    nothing_lost = λ i g n. quotes_standing i g (none_lost n);
    quotes_the_book = λ i {f = f} g y n. quotes_standing i g (none_lost n) ∙ first_quotes_the_book R D s₀ g.first_new f g.accepted i y;
    first_quotes_the_book = λ i {f = f} g y. first_quotes_the_book R D s₀ g.first_new f g.accepted i y;
    after_a_loss = λ i g a. quotes_standing i g (after_loss a);
    refused_until_a_clear = λ i g u. quotes_standing i g (until_clear u);
    from_that_clear_on = λ i g r. quotes_standing i g (none_lost (record { from = _; counts = at_clear; since = r }));
    by_phase = by_phase R D s₀ t₀;
    answers = answers R D s₀ t₀;
  }

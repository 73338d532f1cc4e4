-- The promises leave one outcome: of two results that meet a promise on the same record the mark goes in both or in neither, and of every symbol the same is kept.
use mathlib.Core.Path.{◌≡◌, sym, ap, ◌∙◌}
use Prim.Native.Nat.{ℕ}
use Rattle.places.proofs.EightShelves.{by_place, alike_everywhere}
use Rattle.record.specs.State.{kept_at, Wf}
use Rattle.record.specs.Promises.{Dealt, Deals}
use Rattle.record.specs.declared.Record.{Record}
use Rattle.record.specs.declared.Deal.{Deal}

abbrev SameKept : Record → Record → Type 0
SameKept a b = (m : ℕ) → kept_at a m ≡ kept_at b m

pub one_dealt : {b : Record} {k : ℕ} {d : Deal} {q r : Dealt} → Wf b → Deals b k d q → Deals b k d r → (q.lost ≡ r.lost) × SameKept q.trades r.trades
one_dealt {b} {k} {d} {q} {r} w p s = by_place k
    (λ h. let x = p.obeys h w in let y = s.obeys h w in
    (x.lost ∙ sym y.lost, alike_everywhere (kept_at q.trades) (kept_at r.trades) k (x.own ∙ sym y.own) (λ m ne. x.others m ne ∙ sym (y.others m ne))))
    (λ h. let same : q ≡ r = p.outside h ∙ sym (s.outside h) in
    (ap (λ (x : Dealt). x.lost) same, λ m. ap (λ (x : Dealt). kept_at x.trades m) same))

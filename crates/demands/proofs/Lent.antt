-- A call on a lent book keeps the promise of the call by value, and a promise leaves one outcome.
use mathlib.Core.Path.{refl}
use Rattle.book.specs.Reached.{Reached, applied, ran}
use Rattle.book.specs.declared.Book.{Book}
use Rattle.book.proofs.Reaching.{reached_wf, alike}
use Rattle.demands.specs.Lent.{LentNumbers, LentAgrees, LentReached}
use Rattle.demands.proofs.Demand1.{demand_1_holds}

pub lent_agrees : LentAgrees
lent_agrees = record {
  applying = λ {b = b} {c = c} {s = s} {r = r} {q = q} p m n.
      let w = reached_wf p in
      let z = (alike b b w w refl).applying s 0 _ q m n in
      (z.0, z.1, z.2, z.3, alike c q.book (m.obeys w).wf (n.obeys w).wf z.4);
  running = λ {b = b} {c = c} {s = s} {r = r} {q = q} p m n.
      let w = reached_wf p in
      let z = (alike b b w w refl).running s 0 _ q m n in
      (z.0, z.1, alike c q.book (m.obeys w).wf (n.obeys w).wf z.2);
}

pub lent_reached : LentReached
lent_reached = record { applying = λ p m. applied p m; running = λ p m. ran p m }

pub lent_numbers : {b : Book} → Reached b → LentNumbers b
lent_numbers {b = b} p = record {
  applying = λ m. (demand_1_holds p).book_numbers.applying m;
  running = λ m. (demand_1_holds p).book_numbers.running m;
  unchanged = λ m h. (demand_1_holds p).refusals.unchanged m h;
}

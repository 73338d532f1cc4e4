-- A run is the step over each message of its walk in turn, and the parts have the messages of the file, so a run over the parts ends as the run over the file does.
use mathlib.Core.List.{List, flatten}
use mathlib.Core.Path.{◌≡◌, sym}
use Prim.Native.Nat.{ℕ}
use Rattle.book.specs.State.{View}
use Rattle.book.specs.Walk.{steps_of, run_of}
use Rattle.parts.specs.Parts.{walk_parts}
use Rattle.parts.proofs.Cuts.{cuts_do_not_matter}

-- the state and the answer at the end do not hang on the cuts
pub run_in_parts : (v : View) (ps : List (List ℕ)) → run_of v (flatten ps) 0 ≡ record { view = steps_of v (walk_parts ps).messages; answer = (walk_parts ps).answer }
unfolding run_of
run_in_parts v ps = λ i. record { view = steps_of v (sym (cuts_do_not_matter ps) i).messages; answer = (sym (cuts_do_not_matter ps) i).answer }

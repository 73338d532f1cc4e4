-- What is left of the laying comes to all of it (`Rest`): each batch is run and laid, and it ends where the walk stops or the buffer is full.
use Rattle.std.proofs.Common.{◌≡◌, ◌-◌, length}
use Rattle.page.proofs.Sheets.{Rest}
use Rattle.page.proofs.laying.lay.Given as goal

abbrev pub invariant-loop-market : goal.invariant-loop-market
invariant-loop-market l = (length l.out ≡ length l.initial.out) × ((length l.notes ≡ 4096) × Rest l.initial.b l.stream l.initial.here l.initial.p l.second l.initial.out l.b l.here l.p l.n l.out)

abbrev pub decreases-loop-market : goal.decreases-loop-market
decreases-loop-market l = length l.stream - l.here

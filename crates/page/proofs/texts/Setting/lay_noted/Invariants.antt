-- As far as it went, laying goes on behind it as from the start (`SoFar`).
use Rattle.std.proofs.Common.{◌≡◌, length}
use Rattle.page.specs.Laying.{SoFar}
use Rattle.page.proofs.texts.Setting.lay_noted.Given as goal

abbrev pub invariant-loop-answer : goal.invariant-loop-answer
invariant-loop-answer l =
    (length l.out ≡ length l.initial.out) × (l.t.laid ≡ l.answer-index) × SoFar l.self.market l.self.names l.stream l.at l.notes l.place l.self.second l.initial.out l.filled l.t.at l.t.place l.t.count l.t.laid l.out

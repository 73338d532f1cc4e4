-- What a write takes goes behind what was taken.
use mathlib.Core.Bool.{false, true≢false}
use mathlib.Core.List.{List}
use mathlib.Core.Path.{◌≡◌, sym, ap, ◌∙◌}
use Prim.Native.Nat.{ℕ, ◌-◌}
use native.Mathlib.Omega.{arith}
use denote.Bor.{Bor}
use lib.ListN.{length, drop, length-drop}
use lib.Seq.{take_all}
use Rattle.painterend.proofs.Passed.{write_adds, write_keeps, some_put}
use Rattle.painterend.proofs.output.put.Goals as goal
use Rattle.painterend.proofs.output.put.Goals.{in-Ok, in-Err+else-not-again}

pub returns-in-Ok-eq0 : goal.returns-in-Ok-eq0
returns-in-Ok-eq0 g c = some_put _ _ _ _ (write_adds _ _ _ _ c.loop.invariant _ _ c.in-Ok-eq0.ensures.bytes) false (λ z. absurd (true≢false (sym z)))

pub returns-then-not-again : goal.returns-then-not-again
returns-then-not-again g c = some_put _ _ _ _ (write_keeps _ _ _ _ c.loop.invariant _ c.in-Err.ensures.bytes) false (λ z. absurd (true≢false (sym z)))

pub loop-preserved : goal.loop-preserved
loop-preserved g c = elim c.match-write.branch [
  | in-Ok w ↦ let left = c.loop.rest.now in
      let rest : c.match-write.rest.now ≡ drop w.in-Ok.n left = ap (λ (r : Bor (List ℕ)). r.now) w.rest-is ∙ take_all (length left - w.in-Ok.n) (drop w.in-Ok.n left) (omega (arith, length-drop w.in-Ok.n left)) in
      rw rest (write_adds _ _ _ _ c.loop.invariant _ _ w.in-Ok.ensures.bytes)
  | in-Err+else-not-again w ↦ rw w.rest-is (write_keeps _ _ _ _ c.loop.invariant _ w.in-Err.ensures.bytes)
]

pub returns : goal.returns
returns g c = some_put _ _ _ _ c.loop.invariant false (λ z. absurd (true≢false (sym z)))

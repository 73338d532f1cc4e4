-- Before a turn at i the line has all digits but the last i.
use Prim.Native.Nat.{◌-◌, ◌/◌, ◌^◌}
use Rattle.columns.specs.Text.{fixed}
use Rattle.columns.specs.Held.{Adds}
use Rattle.columns.proofs.Line.put_fixed.Given as goal

abbrev pub invariant-loop-i : goal.invariant-loop-i
invariant-loop-i l = Adds l.initial.self (fixed (l.w - l.i) (l.n / 10 ^ l.i)) l.self

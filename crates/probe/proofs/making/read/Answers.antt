-- A message that is reached starts and ends within the bytes given.
use Rattle.std.proofs.Common.{◌≡◌, ℕ, ◌+◌, ◌≤◌, List, Result, Ok, length, drop, sym, ap, ◌∙◌, arith, rules, length-drop}
use Rattle.wire.specs.declared.ReachError.{ReachError}
use Rattle.wire.specs.Reading.{reached_as, reach_of}
use Rattle.wire.proofs.Cases.{reached}
use Rattle.probe.proofs.making.read.Goals as goal

within : (s : List ℕ) (at n : ℕ) (r : Result ℕ ReachError) → reached_as r ≡ reach_of (drop at s) → r ≡ Ok n → at + n ≤ length s
within s at n r e size =
    let there = reached (drop at s) n (sym e ∙ ap reached_as size) in
    omega (arith, there.least, there.there, length-drop at s)

pub slice_bounds-decode-count : goal.slice_bounds-decode-count
slice_bounds-decode-count g c = omega (arith, within c.args.s.bytes.now c.args.s.at c.in-Ok.n c.reach_at.result c.reach_at.ensures c.in-Ok.is)

pub slice_bounds-decode-start : goal.slice_bounds-decode-start
slice_bounds-decode-start g c =
    let end = within c.args.s.bytes.now c.args.s.at c.in-Ok.n c.reach_at.result c.reach_at.ensures c.in-Ok.is in
    search rules

pub overflow_add-at : goal.overflow_add-at
overflow_add-at g c =
    let end = within c.args.s.bytes.now c.args.s.at c.in-Ok.n c.reach_at.result c.reach_at.ensures c.in-Ok.is in
    search rules

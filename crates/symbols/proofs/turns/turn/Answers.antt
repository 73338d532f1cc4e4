-- The tests are those of the definition, in its order.
use mathlib.Core.Path.{◌≡◌}
use native.Mathlib.Omega.{arith}
use borrow.Author.Tests.{lt-ltb, le-ltb}
use Prim.Native.Nat.{◌<◌, ◌≤◌}
use Rattle.std.proofs.lemmas.Cmp.{ranked}
use Rattle.feed.specs.Reader.{ruled}
use Rattle.symbols.proofs.turns.turn.Goals as goal

pub returns-then-s : goal.returns-then-s
unfolding ruled
returns-then-s c = rw c.if-s.true

pub returns-in-Less : goal.returns-in-Less
unfolding ruled
returns-in-Less c =
    let below : c.from.result < c.args.s.expected = ranked c.from.result c.args.s.expected _ c.in-Less.ensures in
    let lower : c.args.number < c.args.s.expected = omega (arith, below, c.from.ensures) in
    rw (c.if-s.false, lt-ltb _ _ lower)

pub returns-in-Equal : goal.returns-in-Equal
unfolding ruled
returns-in-Equal c =
    let same : c.from.result ≡ c.args.s.expected = ranked c.from.result c.args.s.expected _ c.in-Equal.ensures in
    let above : c.args.s.expected ≤ c.args.number = omega (arith, same, c.from.ensures) in
    let below : c.args.number ≤ c.args.s.expected = omega (arith, same, c.from.ensures) in
    rw (c.if-s.false, le-ltb _ _ above, le-ltb _ _ below)

pub returns-in-Greater : goal.returns-in-Greater
unfolding ruled
returns-in-Greater c =
    let above : c.args.s.expected < c.from.result = ranked c.from.result c.args.s.expected _ c.in-Greater.ensures in
    let higher : c.args.s.expected < c.args.number = omega (arith, above, c.from.ensures) in
    let not_below : c.args.s.expected ≤ c.args.number = omega (arith, higher) in
    rw (c.if-s.false, le-ltb _ _ not_below, lt-ltb _ _ higher)

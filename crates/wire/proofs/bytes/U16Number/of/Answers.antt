-- The library's number of the bytes is theirs, and no bytes are 0 (`field_read`).
use native.Mathlib.Omega.{arith}
use Rattle.wire.proofs.Numbers.{field_read}
use Rattle.wire.proofs.bytes.U16Number.of.Goals as goal

pub returns : goal.returns
returns c = field_read 2 c.args.field.now c.try_into.result c.map_or.result (omega arith) c.requires c.try_into.ensures c.map_or.ensures

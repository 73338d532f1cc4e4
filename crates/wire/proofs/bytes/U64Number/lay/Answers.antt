-- The library's bytes of the number are its bytes, all of them or none (`field_laid`).
use Rattle.wire.proofs.Numbers.{field_laid}
use Rattle.wire.proofs.bytes.U64Number.lay.Goals as goal

pub returns : goal.returns
returns c = field_laid 8 c.args.self c.args.field.now _ c.to_le_bytes-bytes.result c.requires c.to_le_bytes-bytes.ensures c.copy_from_slice.ensures.after

-- The name is written over the first of eleven zeros.
use Rattle.symbols.proofs.Padding.{padded_over_zeros}
use Rattle.symbols.proofs.names.padded_name.Goals as goal

pub returns : goal.returns
returns c = rw c.copy_from_slice.ensures.after (padded_over_zeros c.args.name.now c.requires)

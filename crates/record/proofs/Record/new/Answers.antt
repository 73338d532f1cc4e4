-- Every place is the one empty place repeated.
use Rattle.record.proofs.Record.new.Goals as goal

pub returns : goal.returns
returns c = rw (c.empty-t.ensures, c.empty-c.ensures)

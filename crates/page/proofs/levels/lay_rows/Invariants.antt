-- The first rows are laid, as far as the loop has come.
use Rattle.std.proofs.Common.{◌≡◌, length, take}
use Rattle.page.specs.Levels.{rows_text}
use Rattle.page.specs.Printing.{Appends}
use Rattle.page.proofs.levels.lay_rows.Given as goal

abbrev pub invariant-loop-row : goal.invariant-loop-row
invariant-loop-row l = (length l.out ≡ length l.initial.out) × Appends (rows_text l.buy l.scale (take l.row-index l.fn.rows)) 0 l.initial.out l.n l.out

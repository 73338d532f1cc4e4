-- From a line that holds nothing, each call adds one column of those that every line begins with.
use Rattle.std.proofs.Common.{ℕ, List, subst}
use Rattle.columns.specs.Columns.{next, bytes}
use Rattle.columns.specs.Held.{Adds}
use Rattle.columns.proofs.Holding.{adds_then, adds_last, holds_first}
use Rattle.page.proofs.lines.Entry.opened.Goals as goal

pub returns : goal.returns
returns c = holds_first c.blank-l.ensures
    (adds_then c.put_number.ensures
    (adds_then c.number_column.ensures
    (adds_then c.clock_column.ensures
    (adds_then (subst (λ (x : List ℕ). Adds c.clock_column.new.self (next (bytes x)) c.bytes_column.new.self) c.name_of.ensures c.bytes_column.ensures) (adds_last c.number_column-2.ensures)))))

use Rattle.columns.specs.Text.{text_byte}
use Rattle.columns.proofs.Line.text_column.Given as goal

abbrev pub ghost-shown_column : goal.ghost-shown_column
ghost-shown_column a = text_byte

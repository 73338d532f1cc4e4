use Rattle.columns.proofs.Line.bytes_column.Given as goal

abbrev pub ghost-shown_column : goal.ghost-shown_column
ghost-shown_column a = λ b. b

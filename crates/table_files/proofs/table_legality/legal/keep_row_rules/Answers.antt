use Rattle.table_files.proofs.table_legality.legal.keep_row_rules.Goals as goal

pub returns-then-fit_table : goal.returns-then-fit_table
returns-then-fit_table c = (
  λ is. (c.fit_table.ensures.0 c.if-fit_table.true, c.are_apart.ensures.0 is),
  λ both. c.are_apart.ensures.1 both.1,
)

use Rattle.table_files.proofs.table_legality.legal.keep_rules.Goals as goal

pub returns-then-have_legal_rows : goal.returns-then-have_legal_rows
returns-then-have_legal_rows c = (
  λ is. (c.have_legal_rows.ensures.0 c.if-have_legal_rows.true, c.keep_keys.ensures.0 is),
  λ both. c.keep_keys.ensures.1 both.1,
)

use Rattle.table_files.proofs.table_legality.Fitting.{fit_rows, rows_fit}
use Rattle.table_files.proofs.table_legality.legal.are_legal_rows.Goals as goal

pub returns : goal.returns
returns c =
    let table = c.args.table.now in
    let rows = c.args.rows.now in (
      λ is. rows_fit table rows (c.keep_row_rules.ensures.0 is).0 (c.keep_row_rules.ensures.0 is).1,
      λ legal. c.keep_row_rules.ensures.1 (fit_rows table rows legal, legal.keys),
    )

use Rattle.case_laws.specs.candidates.Rows.{shown_rows}
use Rattle.cells.specs.Parts.{schema_in}
use Rattle.keyed_rows.specs.set_rows.AtKey.{AreRowsBelow}
use Rattle.keyed_rows.proofs.set_rows.at_key.rows_at.Given as goal

-- the rows of the tables that were passed
abbrev pub invariant-loop-place : goal.invariant-loop-place
invariant-loop-place l = AreRowsBelow (schema_in l.parts) l.tables l.set l.key l.place (shown_rows l.rows.items)

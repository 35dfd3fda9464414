use Rattle.cells.specs.Parts.{schema_in}
use Rattle.keyed_rows.specs.set_rows.Keyed.{AreKeyedRows, shown_keyed_rows}
use Rattle.keyed_rows.proofs.set_rows.by_key.keyed_rows.Given as goal

-- the rows of the tables that were passed
abbrev pub invariant-loop-place : goal.invariant-loop-place
invariant-loop-place l = AreKeyedRows (schema_in l.parts) l.tables l.set l.place (shown_keyed_rows l.keyed.items)

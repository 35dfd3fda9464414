use Rattle.round_trip.specs.Words.{cell_of}
use Rattle.table_files.specs.table_legality.Cells.{FitsColumn}
use Rattle.entity_state.proofs.breach_order.Turns.{EachTo}
use Rattle.table_files.proofs.table_legality.legal.fits_table.Given as goal

-- the cells of the columns that were passed may stand there
abbrev pub invariant-loop-j : goal.invariant-loop-j
invariant-loop-j l = EachTo (λ j column. FitsColumn (cell_of l.row (record { index = j })) column) l.columns l.j

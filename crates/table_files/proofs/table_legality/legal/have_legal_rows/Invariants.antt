use Rattle.round_trip.specs.Words.{AreLegalRows, rows_in}
use Rattle.entity_state.proofs.breach_order.Turns.{EachTo}
use Rattle.table_files.proofs.table_legality.legal.have_legal_rows.Given as goal

-- the tables that were passed have legal rows
abbrev pub invariant-loop-t : goal.invariant-loop-t
invariant-loop-t l = EachTo (λ t table. AreLegalRows table (rows_in l.tables (record { index = t }))) l.declared l.t

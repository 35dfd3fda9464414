use Rattle.round_trip.specs.Words.{row_key}
use Rattle.entity_state.proofs.breach_order.Apart.{ApartTo}
use Rattle.table_files.proofs.table_legality.legal.are_apart.Given as goal

-- of the rows that were passed none has the key of one before it
abbrev pub invariant-loop-i : goal.invariant-loop-i
invariant-loop-i l = ApartTo (row_key l.table) l.rows l.i

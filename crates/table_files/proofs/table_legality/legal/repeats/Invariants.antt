use Rattle.round_trip.specs.Words.{row_key}
use Rattle.entity_state.proofs.breach_order.Apart.{OtherTo}
use Rattle.table_files.proofs.table_legality.legal.repeats.Given as goal

-- those that were passed have other keys
abbrev pub invariant-loop-k : goal.invariant-loop-k
invariant-loop-k l = OtherTo (row_key l.table) l.rows l.i l.k

use Rattle.table_files.specs.table_legality.References.{IsKept}
use Rattle.entity_state.proofs.breach_order.Turns.{EachTo}
use Rattle.table_files.proofs.table_legality.legal.keep_keys.Given as goal

-- the foreign keys that were passed are kept
abbrev pub invariant-loop-key : goal.invariant-loop-key
invariant-loop-key l = EachTo (λ _ key. IsKept l.tables key) l.keys l.key-index

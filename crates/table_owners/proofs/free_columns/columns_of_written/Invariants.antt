use Rattle.round_trip.specs.Words.{EntityModel}
use Rattle.round_trip.specs.Between.{schema_of}
use Rattle.table_owners.specs.Clearing.{IsStart}
use Rattle.table_owners.proofs.free_columns.columns_of_written.Given as goal

-- the columns of the tables so far
abbrev pub invariant-loop-place : goal.invariant-loop-place
invariant-loop-place l = (model : EntityModel) → IsStart (schema_of model l.store l.mapping) l.place l.free.items

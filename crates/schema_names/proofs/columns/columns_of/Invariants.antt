use Rattle.std.proofs.Common.{take}
use Rattle.schema_names.proofs.NearPlaces.{HaveColumns}
use Rattle.schema_names.proofs.columns.columns_of.Given as goal

-- the columns of the tables that were passed
abbrev pub invariant-loop-table : goal.invariant-loop-table
invariant-loop-table l = HaveColumns (take l.table-index l.tables) l.columns

use Rattle.std.proofs.Common.{◌≡◌, [], flat_map, take}
use Rattle.region_partition.specs.mapping_limits.Checked.{of_table}
use Rattle.region_partition.proofs.mapping_limits.documents.check_tables.Given as goal

-- none of the tables so far passes the limit
abbrev pub invariant-loop-table : goal.invariant-loop-table
invariant-loop-table l = flat_map of_table (take l.table-index l.tables) ≡ []

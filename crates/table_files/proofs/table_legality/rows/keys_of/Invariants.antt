use Rattle.std.proofs.Common.{◌≡◌, map, take}
use Rattle.round_trip.specs.Words.{row_key}
use Rattle.table_files.proofs.table_legality.rows.keys_of.Given as goal

-- the keys of the rows that were passed
abbrev pub invariant-loop-row : goal.invariant-loop-row
invariant-loop-row l = l.keys.items ≡ map (row_key l.table) (take l.row-index l.rows)

use Rattle.std.proofs.Common.{◌≡◌, map, take}
use Rattle.dangling_search.proofs.region_rows.tables_in.Given as goal

-- the tables of the rows so far have come
abbrev pub invariant-loop-row : goal.invariant-loop-row
invariant-loop-row l = l.list ≡ map (λ row. row.table) (take l.row-index l.rows)

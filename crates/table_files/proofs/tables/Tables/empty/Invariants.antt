use Rattle.std.proofs.Common.{◌≡◌, [], map, take}
use Rattle.table_files.proofs.tables.Tables.empty.Given as goal

-- an empty list for each table that was passed
abbrev pub invariant-loop : goal.invariant-loop
invariant-loop l = l.rows.items ≡ map (λ _. []) (take l.index l.items)

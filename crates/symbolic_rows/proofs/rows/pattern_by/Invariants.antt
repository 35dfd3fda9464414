use Rattle.std.proofs.Common.{◌≡◌, flat_map, map, take}
use Rattle.std.specs.List.{enumerate_from}
use Rattle.regions.specs.Patterns.{rows_at}
use Rattle.symbolic_rows.specs.Written.{in_symbols}
use Rattle.symbolic_rows.proofs.rows.pattern_by.Given as goal

-- the rows of the tables so far have come
abbrev pub invariant-loop-index : goal.invariant-loop-index
invariant-loop-index l = l.rows
    ≡ flat_map (λ placed. rows_at (map in_symbols l.fn.writings.items) (record { index = placed.0 }) placed.1) (take l.index (enumerate_from 0 l.store.tables))

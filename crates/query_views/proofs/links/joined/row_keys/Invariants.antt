use Rattle.std.proofs.Common.{◌≡◌, map, take}
use Rattle.edm_types.specs.Rows.{cells_of}
use Rattle.query_views.specs.LinkKeys.{shown_keys}
use Rattle.query_views.proofs.links.joined.row_keys.Given as goal

-- the cells of the rows so far have come
abbrev pub invariant-loop-row : goal.invariant-loop-row
invariant-loop-row l = shown_keys l.keyed.items ≡ map (λ row. cells_of row l.columns) (take l.row-index l.rows)

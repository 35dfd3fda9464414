use Rattle.std.proofs.Common.{◌≡◌, map, take}
use Rattle.std.specs.List.{enumerate_from}
use Rattle.cells.specs.Cells.{is_free_in}
use Rattle.delta_plan.specs.Keeping.{kept_cell}
use Rattle.delta_plan.proofs.keeping.kept_row.Given as goal

-- the cells so far are kept
abbrev pub invariant-loop-index : goal.invariant-loop-index
invariant-loop-index l = l.kept ≡ map (kept_cell (is_free_in l.cells l.initial.id) l.held) (take l.index (enumerate_from 0 l.fresh.cells))

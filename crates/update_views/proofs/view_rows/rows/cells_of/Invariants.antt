use Rattle.std.proofs.Common.{◌≡◌, map, take}
use Rattle.update_views.specs.view_rows.Made.{cell_of}
use Rattle.update_views.proofs.view_rows.rows.cells_of.Given as goal

-- the cells so far
abbrev pub invariant-loop-symbols : goal.invariant-loop-symbols
invariant-loop-symbols l = l.cells ≡ map (cell_of l.model l.ty) (take l.symbols-index l.listed)

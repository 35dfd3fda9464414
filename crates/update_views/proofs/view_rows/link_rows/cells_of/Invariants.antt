use Rattle.std.proofs.Common.{◌≡◌, map, take}
use Rattle.update_views.specs.view_rows.Made.{link_cell_of}
use Rattle.update_views.proofs.view_rows.link_rows.cells_of.Given as goal

-- the cells so far
abbrev pub invariant-loop-symbols : goal.invariant-loop-symbols
invariant-loop-symbols l = l.cells ≡ map (link_cell_of l.model l.assoc) (take l.symbols-index l.listed)

use Rattle.std.proofs.Common.{◌≡◌, ◌++◌, take, flat_map}
use Rattle.delta_plan.specs.Asking.{rows_by_place}
use Rattle.delta_plan.proofs.asking.ask_links.Given as goal

-- those so far are asked for
abbrev pub invariant-loop-one : goal.invariant-loop-one
invariant-loop-one g l = l.rows.items ≡ l.initial.rows.items ++ flat_map (rows_by_place (g.R.LocalRows.joined_row l.views) l.cells) (take l.one-index l.marked)

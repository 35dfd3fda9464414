use Rattle.std.proofs.Common.{◌≡◌, ◌++◌, take, flat_map}
use Rattle.cells.specs.host_links.Grouped.{links_in}
use Rattle.delta_plan.specs.Asking.{local_rows}
use Rattle.delta_plan.specs.Steps.{raised}
use Rattle.delta_plan.proofs.asking.ask_entities.Given as goal

-- those so far are asked for
abbrev pub invariant-loop-one : goal.invariant-loop-one
invariant-loop-one g l =
    (l.rows.items ≡ l.initial.rows.items ++ flat_map (local_rows (g.R.LocalRows.rows l.views) (links_in l.hosts)) (take l.one-index l.marked))
    × (g.L.Ledger.count l.steps ≡ raised l.one-index (g.L.Ledger.count l.initial.steps))

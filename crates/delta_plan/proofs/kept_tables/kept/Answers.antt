use Rattle.delta_plan.proofs.grouped.Chosen.{are_kept_in_order}
use Rattle.delta_plan.proofs.kept_tables.kept.Goals as goal

pub returns : goal.returns
returns c =
    are_kept_in_order c.args.parts.now.store.now c.args.parts.now.cells.now c.args.tables.now c.args.fresh.now c.in_ok-kept.kept c.requires c.in_ok-kept.ensures

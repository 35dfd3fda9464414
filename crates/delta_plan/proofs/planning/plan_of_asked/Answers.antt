use Rattle.delta_plan.proofs.grouped.Keyed.{held_keyed, kept_keyed}
use Rattle.delta_plan.proofs.planning.plan_of_asked.Goals as goal

pub kept_rows-requires : goal.kept_rows-requires
kept_rows-requires c = held_keyed c.args.store.now c.args.tables.now c.args.asked.now c.in_ok-old.old c.args.wanted.now c.in_ok-old.ensures c.requires.wanted

pub plan_rows-requires : goal.plan_rows-requires
plan_rows-requires c =
    let keyed = held_keyed c.args.store.now c.args.tables.now c.args.asked.now c.in_ok-old.old c.args.wanted.now c.in_ok-old.ensures c.requires.wanted in
    kept_keyed c.args.store.now c.args.cells.now c.in_ok-old.old c.args.wanted.now c.in_ok-new.new c.in_ok-new.ensures keyed

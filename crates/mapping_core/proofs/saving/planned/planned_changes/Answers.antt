use Rattle.row_plans.specs.declared.plan.RowPlan.TheVariants.{Steps, Circular}
use Rattle.update_views.specs.Views.{joined_row, local_rows}
use Rattle.delta_plan.specs.Planning.{LeadsToKept}
use Rattle.delta_plan.specs.RowsOf.{giving}
use Rattle.mapping_core.proofs.saved.Planning.{planned_tables, plans_kept, told_of_ring}
use Rattle.mapping_core.proofs.saving.planned.planned_changes.Goals as goal

pub plan-planned-requires : goal.plan-planned-requires
plan-planned-requires g c =
    let made = c.requires.made in
    let can = c.requires.planned in
    let parts = c.args.made.now.parts in
    let touched = c.in_ok-touched.touched in
    let differ = c.only_touched_units_change.ensures parts.model.now parts.cells.now c.args.before.now c.args.changes.now touched c.in_ok-touched.ensures in
    let has = planned_tables parts made.parts made.accepted c.args.made.now.update_views.now made.update_views c.rows_of_views_are_the_tables.ensures.tables
    c.args.tables.now touched c.args.changes.now c.args.before.now c.args.after.now can differ can.kept can.are_kept can.legal_kept in
    (has.old_rows, has.new_rows, has.in_order, has.may)

-- the changes in order
pub returns-in-Ok-clause-plans : goal.returns-in-Ok-clause-plans
returns-in-Ok-clause-plans g c =
    let made = c.requires.made in
    let parts = c.args.made.now.parts in
    let touched = c.in_ok-touched.touched in
    let differ = c.only_touched_units_change.ensures parts.model.now parts.cells.now c.args.before.now c.args.changes.now touched c.in_ok-touched.ensures in
    plans_kept parts made.parts made.accepted c.args.made.now.update_views.now made.update_views c.rows_of_views_are_the_tables.ensures.tables
    c.args.tables.now touched c.args.changes.now c.args.before.now c.args.after.now c.requires.planned differ (Steps c.in-Ok.planned) c.in-Ok.ensures.leads

-- or a ring of them
pub returns-in-Err-Circular-clause-plans : goal.returns-in-Err-Circular-clause-plans
returns-in-Err-Circular-clause-plans g c =
    let made = c.requires.made in
    let parts = c.args.made.now.parts in
    let touched = c.in_ok-touched.touched in
    let differ = c.only_touched_units_change.ensures parts.model.now parts.cells.now c.args.before.now c.args.changes.now touched c.in_ok-touched.ensures in
    plans_kept parts made.parts made.accepted c.args.made.now.update_views.now made.update_views c.rows_of_views_are_the_tables.ensures.tables
    c.args.tables.now touched c.args.changes.now c.args.before.now c.args.after.now c.requires.planned differ (Circular c.in-Err-Circular.ring)
    (told_of_ring (LeadsToKept (giving (local_rows c.args.made.now.update_views.now) (joined_row c.args.made.now.update_views.now)) parts.model.now parts.store.now parts.cells.now
    c.args.tables.now touched c.args.before.now c.args.after.now)
    c.in-Err-Circular.field-0 c.in-Err-Circular.ring c.in-Err-Circular.field-0-is c.in-Err-Circular.ensures.leads)

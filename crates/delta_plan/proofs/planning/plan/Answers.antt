use Rattle.std.proofs.Common.{subst}
use Rattle.delta_plan.specs.Planning.{LeadsToKept}
use Rattle.delta_plan.proofs.Planned.{asked_all, asked_keyed, both_few, first_few, leads_to_kept, wanted_all, wanted_keyed}
use Rattle.delta_plan.proofs.Stepped.{raised_after}
use Rattle.delta_plan.specs.RowsOf.{giving}
use Rattle.delta_plan.specs.Units.{count_at}
use Rattle.delta_plan.proofs.planning.plan.Goals as goal

pub touched_tables-requires-clause-within : goal.touched_tables-requires-clause-within
touched_tables-requires-clause-within g c =
    asked_all (giving (g.R.LocalRows.rows c.args.views.now) (g.R.LocalRows.joined_row c.args.views.now)) c.args.model.now c.args.store.now c.args.cells.now c.args.tables.now c.args.touched.now c.args.before.now c.args.after.now c.requires

pub touched_tables-requires-2-clause-within : goal.touched_tables-requires-2-clause-within
touched_tables-requires-2-clause-within g c =
    wanted_all (giving (g.R.LocalRows.rows c.args.views.now) (g.R.LocalRows.joined_row c.args.views.now)) c.args.model.now c.args.store.now c.args.cells.now c.args.tables.now c.args.touched.now c.args.before.now c.args.after.now c.requires

pub returns-in_err-asked-clause-most : goal.returns-in_err-asked-clause-most
returns-in_err-asked-clause-most g c =
    first_few (giving (g.R.LocalRows.rows c.args.views.now) (g.R.LocalRows.joined_row c.args.views.now)) c.args.model.now c.args.store.now c.args.cells.now c.args.tables.now c.args.touched.now c.args.before.now c.args.after.now c.requires (g.L.Ledger.count c.args.steps.now) (g.L.Ledger.count c.touched_tables.new.steps) c.touched_tables.ensures.most

pub returns-in_err-wanted-clause-most : goal.returns-in_err-wanted-clause-most
returns-in_err-wanted-clause-most g c =
    both_few (giving (g.R.LocalRows.rows c.args.views.now) (g.R.LocalRows.joined_row c.args.views.now)) c.args.model.now c.args.store.now c.args.cells.now c.args.tables.now c.args.touched.now c.args.before.now c.args.after.now c.requires (g.L.Ledger.count c.args.steps.now) (g.L.Ledger.count c.touched_tables.new.steps) (g.L.Ledger.count c.touched_tables-2.new.steps)
    c.in_ok-asked.ensures.exact c.touched_tables-2.ensures.most

pub returns-in_err-steps_or_ring-clause-most : goal.returns-in_err-steps_or_ring-clause-most
returns-in_err-steps_or_ring-clause-most g c =
    both_few (giving (g.R.LocalRows.rows c.args.views.now) (g.R.LocalRows.joined_row c.args.views.now)) c.args.model.now c.args.store.now c.args.cells.now c.args.tables.now c.args.touched.now c.args.before.now c.args.after.now c.requires (g.L.Ledger.count c.args.steps.now) (g.L.Ledger.count c.touched_tables.new.steps) (g.L.Ledger.count c.touched_tables-2.new.steps)
    c.in_ok-asked.ensures.exact c.touched_tables-2.ensures.most

pub returns-in-Steps-clause-most : goal.returns-in-Steps-clause-most
returns-in-Steps-clause-most g c =
    both_few (giving (g.R.LocalRows.rows c.args.views.now) (g.R.LocalRows.joined_row c.args.views.now)) c.args.model.now c.args.store.now c.args.cells.now c.args.tables.now c.args.touched.now c.args.before.now c.args.after.now c.requires (g.L.Ledger.count c.args.steps.now) (g.L.Ledger.count c.touched_tables.new.steps) (g.L.Ledger.count c.touched_tables-2.new.steps)
    c.in_ok-asked.ensures.exact c.touched_tables-2.ensures.most

pub returns-clause-most : goal.returns-clause-most
returns-clause-most g c =
    both_few (giving (g.R.LocalRows.rows c.args.views.now) (g.R.LocalRows.joined_row c.args.views.now)) c.args.model.now c.args.store.now c.args.cells.now c.args.tables.now c.args.touched.now c.args.before.now c.args.after.now c.requires (g.L.Ledger.count c.args.steps.now) (g.L.Ledger.count c.touched_tables.new.steps) (g.L.Ledger.count c.touched_tables-2.new.steps)
    c.in_ok-asked.ensures.exact c.touched_tables-2.ensures.most

pub plan_of_asked-requires-clause-asked : goal.plan_of_asked-requires-clause-asked
plan_of_asked-requires-clause-asked g c =
    asked_keyed (giving (g.R.LocalRows.rows c.args.views.now) (g.R.LocalRows.joined_row c.args.views.now)) c.args.model.now c.args.store.now c.args.cells.now c.args.tables.now c.args.touched.now c.args.before.now c.args.after.now c.requires c.in_ok-asked.asked c.in_ok-asked.ensures.size c.in_ok-asked.ensures.each

pub plan_of_asked-requires-clause-wanted : goal.plan_of_asked-requires-clause-wanted
plan_of_asked-requires-clause-wanted g c =
    wanted_keyed (giving (g.R.LocalRows.rows c.args.views.now) (g.R.LocalRows.joined_row c.args.views.now)) c.args.model.now c.args.store.now c.args.cells.now c.args.tables.now c.args.touched.now c.args.before.now c.args.after.now c.requires c.in_ok-wanted.wanted c.in_ok-wanted.ensures.size c.in_ok-wanted.ensures.each

pub returns-in-Steps-clause-exact : goal.returns-in-Steps-clause-exact
returns-in-Steps-clause-exact g c =
    raised_after (count_at c.args.model.now c.args.touched.now c.args.before.now) (count_at c.args.model.now c.args.touched.now c.args.after.now) (g.L.Ledger.count c.args.steps.now) (g.L.Ledger.count c.touched_tables.new.steps) (g.L.Ledger.count c.touched_tables-2.new.steps)
    c.in_ok-asked.ensures.exact c.in_ok-wanted.ensures.exact

pub returns-clause-exact : goal.returns-clause-exact
returns-clause-exact g c =
    raised_after (count_at c.args.model.now c.args.touched.now c.args.before.now) (count_at c.args.model.now c.args.touched.now c.args.after.now) (g.L.Ledger.count c.args.steps.now) (g.L.Ledger.count c.touched_tables.new.steps) (g.L.Ledger.count c.touched_tables-2.new.steps)
    c.in_ok-asked.ensures.exact c.in_ok-wanted.ensures.exact

pub returns-in-Steps-clause-leads : goal.returns-in-Steps-clause-leads
returns-in-Steps-clause-leads g c =
    subst (LeadsToKept (giving (g.R.LocalRows.rows c.args.views.now) (g.R.LocalRows.joined_row c.args.views.now)) c.args.model.now c.args.store.now c.args.cells.now c.args.tables.now c.args.touched.now c.args.before.now c.args.after.now) c.in-Steps.is
    (leads_to_kept (giving (g.R.LocalRows.rows c.args.views.now) (g.R.LocalRows.joined_row c.args.views.now)) c.args.model.now c.args.store.now c.args.cells.now c.args.tables.now c.args.touched.now c.args.before.now c.args.after.now c.in_ok-asked.asked c.in_ok-wanted.wanted
    c.in_ok-asked.ensures.each c.in_ok-wanted.ensures.each c.in_ok-steps_or_ring.steps_or_ring c.in_ok-steps_or_ring.ensures)

pub returns-clause-leads : goal.returns-clause-leads
returns-clause-leads g c =
    subst (LeadsToKept (giving (g.R.LocalRows.rows c.args.views.now) (g.R.LocalRows.joined_row c.args.views.now)) c.args.model.now c.args.store.now c.args.cells.now c.args.tables.now c.args.touched.now c.args.before.now c.args.after.now) c.in-Circular.is
    (leads_to_kept (giving (g.R.LocalRows.rows c.args.views.now) (g.R.LocalRows.joined_row c.args.views.now)) c.args.model.now c.args.store.now c.args.cells.now c.args.tables.now c.args.touched.now c.args.before.now c.args.after.now c.in_ok-asked.asked c.in_ok-wanted.wanted
    c.in_ok-asked.ensures.each c.in_ok-wanted.ensures.each c.in_ok-steps_or_ring.steps_or_ring c.in_ok-steps_or_ring.ensures)

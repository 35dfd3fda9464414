use Rattle.std.proofs.Common.{◌<◌, ◌++◌, ◌∙◌, ℕ, List, All, ap, flat_map, length, subst, sym}
use Rattle.cells.specs.host_links.Grouped.{links_in}
use Rattle.delta_plan.specs.Asking.{local_rows, rows_by_place}
use Rattle.delta_plan.specs.Steps.{RoseAtMost, raised}
use Rattle.delta_plan.specs.declared.marked.MarkedLink.{MarkedLink}
use Rattle.delta_plan.proofs.Asked.{all_counted, all_rows, links_within}
use Rattle.delta_plan.proofs.asking.rows_of_touched.Goals as goal

pub returns-in_err-ask_entities-clause-most : goal.returns-in_err-ask_entities-clause-most
returns-in_err-ask_entities-clause-most g c =
    let size = all_counted (g.R.LocalRows.rows c.args.views.now) (g.R.LocalRows.joined_row c.args.views.now) c.args.model.now c.args.cells.now c.args.state.now c.args.touched.now
    c.in_ok-marks.marks c.in_ok-marks.ensures c.in_ok-entities.entities.items c.in_ok-entities.ensures.units in
    subst (λ (n : ℕ). RoseAtMost n (g.L.Ledger.count c.args.steps.now) (g.L.Ledger.count c.ask_entities.new.steps)) (ap length c.as_slice.ensures.value ∙ size) c.ask_entities.ensures.most

pub ask_links-requires : goal.ask_links-requires
ask_links-requires g c =
    let Within : List MarkedLink → Type 0 = All (λ one. one.assoc.index < length c.args.cells.now.places) in
    subst Within (sym c.as_slice-2.ensures.value) (links_within c.args.model.now c.args.cells.now c.in_ok-marks.marks c.args.state.now c.requires.cover c.requires.state
    c.in_ok-links.links.items (c.in_ok-links.ensures c.args.model.now))

pub returns-in_err-ask_links-clause-most : goal.returns-in_err-ask_links-clause-most
returns-in_err-ask_links-clause-most g c =
    let size = all_counted (g.R.LocalRows.rows c.args.views.now) (g.R.LocalRows.joined_row c.args.views.now) c.args.model.now c.args.cells.now c.args.state.now c.args.touched.now
    c.in_ok-marks.marks c.in_ok-marks.ensures c.in_ok-entities.entities.items c.in_ok-entities.ensures.units in
    subst (λ (n : ℕ). RoseAtMost n (g.L.Ledger.count c.args.steps.now) (g.L.Ledger.count c.ask_entities.new.steps)) (ap length c.as_slice.ensures.value ∙ size) c.ask_entities.ensures.most

pub returns-clause-most : goal.returns-clause-most
returns-clause-most g c =
    let size = all_counted (g.R.LocalRows.rows c.args.views.now) (g.R.LocalRows.joined_row c.args.views.now) c.args.model.now c.args.cells.now c.args.state.now c.args.touched.now
    c.in_ok-marks.marks c.in_ok-marks.ensures c.in_ok-entities.entities.items c.in_ok-entities.ensures.units in
    subst (λ (n : ℕ). RoseAtMost n (g.L.Ledger.count c.args.steps.now) (g.L.Ledger.count c.ask_entities.new.steps)) (ap length c.as_slice.ensures.value ∙ size) c.ask_entities.ensures.most

pub returns-clause-exact : goal.returns-clause-exact
returns-clause-exact g c =
    let size = all_counted (g.R.LocalRows.rows c.args.views.now) (g.R.LocalRows.joined_row c.args.views.now) c.args.model.now c.args.cells.now c.args.state.now c.args.touched.now
    c.in_ok-marks.marks c.in_ok-marks.ensures c.in_ok-entities.entities.items c.in_ok-entities.ensures.units in
    c.in_ok-ask_entities.ensures.exact ∙ ap (λ n. raised n (g.L.Ledger.count c.args.steps.now)) (ap length c.as_slice.ensures.value ∙ size)

pub returns-clause-rows : goal.returns-clause-rows
returns-clause-rows g c =
    let local = g.R.LocalRows.rows c.args.views.now in
    let joined = g.R.LocalRows.joined_row c.args.views.now in
    let of_entities = flat_map (local_rows local (links_in c.in_ok-hosts.hosts)) in
    let of_links = flat_map (rows_by_place joined c.args.cells.now) in
    c.in_ok-ask_links.ensures
    ∙ (λ i. (c.in_ok-ask_entities.ensures.rows ∙ ap (λ rows. rows ++ of_entities c.as_slice.result.now) c.new-rows.ensures.items ∙ ap of_entities c.as_slice.ensures.value) i
    ++ of_links (c.as_slice-2.ensures.value i))
    ∙ all_rows local joined c.args.model.now c.args.cells.now c.args.state.now c.args.touched.now c.in_ok-marks.marks c.in_ok-marks.ensures c.in_ok-hosts.hosts c.in_ok-hosts.ensures
    c.in_ok-entities.entities.items c.in_ok-links.links.items c.in_ok-entities.ensures.keys c.in_ok-entities.ensures.units (c.in_ok-links.ensures c.args.model.now)

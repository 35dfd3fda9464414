use Rattle.std.proofs.Common.{◌++◌, List, flat_map, refl, subst, ap, ◌∙◌}
use Rattle.std.proofs.lemmas.Option.{slice_get_read}
use Rattle.emc_base.specs.Lists.{At}
use Rattle.case_laws.specs.declared.region_cases.case.CaseCell.{CaseCell}
use Rattle.symbolic_rows.proofs.Behind.{all_numbered, one_more}
use Rattle.query_cases.specs.case_reading.Shown.{shown_cell}
use Rattle.query_cases.proofs.case_reading.shown.add_row.Goals as goal

pub loop-col-preserved : goal.loop-col-preserved
loop-col-preserved c =
    let cells = c.args.told.now.cells in
    let i = c.loop-col.col in
    let cell : CaseCell = c.cell-item.result in
    let here : At cells i cell = subst (λ (list : List CaseCell). At list i cell) c.as_slice-cell-items.ensures.items
    (slice_get_read _ _ i _ refl c.loop-col-test.true c.cell-item.is) in
    one_more (shown_cell c.args.row) cells i cell here c.args.shown.now c.loop-col.shown c.add_cell.new.shown c.loop-col.invariant c.in_ok-add_cell.ensures

pub returns : goal.returns
returns c =
    c.loop-col.invariant
    ∙ ap (λ entries. c.args.shown.now ++ flat_map (shown_cell c.args.row) entries)
    (all_numbered c.args.told.now.cells c.as_slice-cell-items.result.now c.loop-col.col c.as_slice-cell-items.ensures.items c.loop-col-test.false)

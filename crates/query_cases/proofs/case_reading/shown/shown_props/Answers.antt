use Rattle.std.proofs.Common.{[], flat_map, length, refl, ap, ◌∙◌}
use Rattle.std.proofs.lemmas.Option.{slice_get_read}
use Rattle.emc_base.proofs.Loops.{take-enumerated}
use Rattle.symbolic_rows.proofs.Behind.{one_more}
use Rattle.query_cases.specs.case_reading.Shown.{shown_row}
use Rattle.query_cases.proofs.case_reading.shown.shown_props.Goals as goal

pub loop-row-preserved : goal.loop-row-preserved
loop-row-preserved c =
    let rows = c.args.rows.now in
    let i = c.loop-row.row in
    one_more shown_row rows i c.index-rows-row.result (slice_get_read rows (length rows) i c.index-rows-row.result refl c.loop-row-test.true c.index-rows-row.is)
    [] c.loop-row.shown c.add_row.new.shown c.loop-row.invariant c.in_ok-add_row.ensures

pub returns : goal.returns
returns c = c.loop-row.invariant ∙ ap (flat_map shown_row) (take-enumerated c.args.rows.now c.loop-row.row c.loop-row-test.false)

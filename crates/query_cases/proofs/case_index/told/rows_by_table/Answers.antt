use Rattle.std.proofs.Common.{map, refl, ap, ◌∙◌}
use Rattle.std.proofs.lemmas.List.{take_all}
use Rattle.std.proofs.lemmas.Option.{slice_get_read}
use Rattle.std.specs.List.{flat_map}
use Rattle.emc_base.proofs.Turns.{flat_more}
use Rattle.query_cases.specs.case_index.Told.{case_rows, keyed_row}
use Rattle.query_cases.proofs.case_index.Listed.{rows_listed}
use Rattle.query_cases.proofs.case_index.told.rows_by_table.Goals as goal

pub loop-case-preserved : goal.loop-case-preserved
loop-case-preserved c =
    let i = c.loop-case.case-index in
    c.in_ok-add_case.ensures
    ∙ flat_more case_rows c.args.cases.now i c.case-item.result (map keyed_row c.loop-case.told.items) c.loop-case.invariant
    (slice_get_read _ _ i _ refl c.loop-case-test.true c.case-item.is)

pub returns : goal.returns
returns c = rows_listed c.args.cases.now c.loop-case.told.items
    (c.loop-case.invariant ∙ ap (flat_map case_rows) (take_all c.loop-case.case-index c.args.cases.now c.loop-case-test.false))
    c.in_ok-grouped.grouped c.in_ok-grouped.ensures

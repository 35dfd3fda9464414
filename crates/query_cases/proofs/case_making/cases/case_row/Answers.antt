use Rattle.std.proofs.Common.{ap, ◌∙◌}
use Rattle.cells.specs.Cells.{is_free_in}
use Rattle.case_laws.specs.region_cases.Cases.{case_cell}
use Rattle.query_cases.proofs.case_making.Made.{all_made, numbered_item, one_more_made}
use Rattle.query_cases.proofs.case_making.cases.case_row.Goals as goal

pub loop-index-preserved : goal.loop-index-preserved
loop-index-preserved c =
    let parts = c.args.parts.now in
    let row = c.args.row.now in
    let i = c.loop-index.index in
    let cell = case_cell (is_free_in parts.cells.now) parts.model.now c.args.atoms.now row.table in
    one_more_made (λ placed. cell (record { index = placed.0 }) placed.1) _ i (i, c.symbols-item.result)
    (numbered_item row.cells c.as_slice-symbols-items.result.now i c.symbols-item.result c.as_slice-symbols-items.ensures.items c.loop-index-test.true c.symbols-item.is)
    c.loop-index.cells c.push.new.self c.in_ok-case_cell.field-0 c.loop-index.invariant c.in_ok-push.ensures.ok
    (c.in_ok-case_cell.ensures ∙ ap (cell (record { index = i })) c.as_slice.ensures.items)

pub returns : goal.returns
returns c =
    let parts = c.args.parts.now in
    let row = c.args.row.now in
    let cells = all_made (λ placed. case_cell (is_free_in parts.cells.now) parts.model.now c.args.atoms.now row.table (record { index = placed.0 }) placed.1)
    row.cells c.as_slice-symbols-items.result.now c.loop-index.index c.loop-index.cells c.as_slice-symbols-items.ensures.items c.loop-index-test.false c.loop-index.invariant in
    λ k. record { table = row.table; cells = cells k }

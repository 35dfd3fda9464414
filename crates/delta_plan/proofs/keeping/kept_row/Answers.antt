use Rattle.std.proofs.Common.{◌++◌, ◌∷◌, [], ◌∙◌, ap}
use Rattle.cells.specs.Cells.{is_free_in}
use Rattle.delta_plan.specs.Keeping.{kept_cell}
use Rattle.delta_plan.proofs.Marking.{mapped_all, next_mapped, reached}
use Rattle.delta_plan.proofs.keeping.kept_row.Goals as goal

pub loop-index-preserved : goal.loop-index-preserved
loop-index-preserved c =
    let items = c.as_slice-cell-items.result.now in
    let i = c.loop-index.index in
    let cell = c.cell-item.result in
    let f = kept_cell (is_free_in c.args.cells.now c.args.id) c.args.held.now in
    next_mapped f c.args.fresh.now.cells items c.as_slice-cell-items.ensures.items i cell c.loop-index.kept c.push.new.self
    (reached items i cell c.loop-index-test.true c.cell-item.is) c.loop-index.invariant
    (c.in_ok-push.ensures.ok ∙ ap (λ one. c.loop-index.kept ++ one ∷ []) c.in_ok-kept_cell.ensures)

pub returns : goal.returns
returns c =
    mapped_all (kept_cell (is_free_in c.args.cells.now c.args.id) c.args.held.now) c.args.fresh.now.cells c.as_slice-cell-items.result.now c.as_slice-cell-items.ensures.items
    c.loop-index.index c.loop-index.kept c.loop-index-test.false c.loop-index.invariant

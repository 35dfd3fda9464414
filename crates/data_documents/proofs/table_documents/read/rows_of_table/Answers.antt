use Rattle.std.proofs.Common.{map, ap, ◌∙◌}
use Rattle.serde_json.specs.View.{view}
use Rattle.emc_base.proofs.Loops.{map-taken}
use Rattle.json_form.specs.from_nodes.Reading.{items_at}
use Rattle.json_form.specs.Nodes.{part_of}
use Rattle.data_documents.specs.table_documents.Tables.{row_in}
use Rattle.data_documents.proofs.table_documents.read.rows_of_table.Goals as goal

pub returns : goal.returns
returns c =
    map-taken (row_in c.args.table.now.cols) view c.items_at-item-items.result.now c.loop-item.rows c.loop-item.item-index c.loop-item-test.false
    c.loop-item.invariant
    ∙ ap (map (row_in c.args.table.now.cols)) c.items_at-item-items.ensures
    ∙ ap (λ name. map (row_in c.args.table.now.cols) (items_at name (part_of c.args.node))) c.as_str.ensures.text

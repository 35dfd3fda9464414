use Rattle.std.proofs.Common.{map, ap, ◌∙◌}
use Rattle.serde_json.specs.View.{view}
use Rattle.emc_base.proofs.Loops.{map-taken}
use Rattle.data_documents.specs.change_documents.Changes.{change_in}
use Rattle.data_documents.proofs.change_documents.read.changes_in.Goals as goal

pub returns : goal.returns
returns c =
    let model = c.args.names.now.model.now in
    map-taken (change_in model) view c.items-item-items.result.now c.loop-item.changes c.loop-item.item-index c.loop-item-test.false c.loop-item.invariant
    ∙ ap (map (change_in model)) c.items-item-items.ensures

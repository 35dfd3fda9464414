use Rattle.std.proofs.Common.{map, ap, ◌∙◌}
use Rattle.serde_json.specs.View.{view}
use Rattle.emc_base.proofs.Loops.{map-taken}
use Rattle.json_form.specs.from_nodes.Reading.{items_at}
use Rattle.json_form.specs.Nodes.{part_of}
use Rattle.data_documents.specs.entity_documents.States.{entity_in}
use Rattle.data_documents.proofs.entity_documents.read.entities_of.Goals as goal

pub returns : goal.returns
returns c =
    let model = c.args.names.now.model.now in
    map-taken (entity_in model) view c.items_at-item-items.result.now c.loop-item.entities c.loop-item.item-index c.loop-item-test.false c.loop-item.invariant
    ∙ ap (map (entity_in model)) c.items_at-item-items.ensures
    ∙ ap (λ name. map (entity_in model) (items_at name (part_of c.args.node))) c.as_str.ensures.text

use Rattle.serde_json.specs.View.{view}
use Rattle.emc_base.proofs.Loops.{map-taken}
use Rattle.data_documents.specs.entity_documents.States.{link_in}
use Rattle.data_documents.proofs.entity_documents.read.stored_links.Goals as goal

pub returns : goal.returns
returns c =
    map-taken (link_in c.args.model.now c.args.assoc.now) view c.args.items.now c.loop-item.links c.loop-item.item-index c.loop-item-test.false c.loop-item.invariant

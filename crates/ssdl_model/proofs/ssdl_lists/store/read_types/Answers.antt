use Rattle.std.proofs.Common.{map, ap, ◌∙◌}
use Rattle.serde_json.specs.View.{view}
use Rattle.emc_base.proofs.Loops.{map-taken}
use Rattle.ssdl_model.specs.ssdl_lists.RawStore.{raw_table}
use Rattle.ssdl_model.proofs.ssdl_lists.store.read_types.Goals as goal

pub returns : goal.returns
returns c =
    map-taken raw_table view c.items_at-item-items.result.now c.loop-item.types c.loop-item.item-index c.loop-item-test.false c.loop-item.invariant
    ∙ ap (map raw_table) c.items_at-item-items.ensures

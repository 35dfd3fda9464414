use Rattle.std.proofs.Common.{map, ap, ◌∙◌, arith}
use Rattle.std.proofs.lemmas.Grind.{common_steps}
use Rattle.serde_json.specs.View.{view}
use Rattle.emc_base.proofs.Loops.{map-taken}
use Rattle.json_form.proofs.from_nodes.lists.list_at.Goals as goal

pub returns : goal.returns
returns g c =
    map-taken g.T.FromNode.of view c.items_at-item-items.result.now c.loop-item.list c.loop-item.item-index c.loop-item-test.false c.loop-item.invariant
    ∙ ap (map g.T.FromNode.of) c.items_at-item-items.ensures

pub loop-item-init : goal.loop-item-init
loop-item-init g c = c.empty-list.ensures

pub loop-item-preserved : goal.loop-item-preserved
loop-item-preserved g c = grind (arith, common_steps)

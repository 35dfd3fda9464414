use Rattle.std.proofs.Common.{◌≡◌, map, take}
use Rattle.serde_json.specs.View.{view}
use Rattle.json_form.proofs.from_nodes.lists.list_at.Given as goal

abbrev pub invariant-loop-item : goal.invariant-loop-item
invariant-loop-item g l = l.list ≡ map (λ item. g.T.FromNode.of (view item)) (take l.item-index l.item-items)

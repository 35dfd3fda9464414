use Rattle.std.proofs.Common.{◌≡◌, map, take}
use Rattle.serde_json.specs.View.{view}
use Rattle.json_form.specs.Trees.{value_tree}
use Rattle.json_form.proofs.tree.key_tree.Given as goal

abbrev pub invariant-loop-value : goal.invariant-loop-value
invariant-loop-value l = map view l.trees.items ≡ map value_tree (take l.value-index l.value-items)

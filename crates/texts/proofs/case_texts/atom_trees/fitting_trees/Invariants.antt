use Rattle.std.proofs.Common.{◌≡◌, filter, map, take}
use Rattle.serde_json.specs.View.{view}
use Rattle.json_form.specs.Trees.{value_tree}
use Rattle.regions.specs.Fitting.{fits}
use Rattle.texts.proofs.case_texts.atom_trees.fitting_trees.Given as goal

-- those of the values so far have come
abbrev pub invariant-loop-value : goal.invariant-loop-value
invariant-loop-value l = map view l.trees.items ≡ map value_tree (filter (λ value. fits value l.kind) (take l.value-index l.values))

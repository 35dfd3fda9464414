use Rattle.std.proofs.Common.{◌≡◌, map, take}
use Rattle.serde_json.specs.View.{view}
use Rattle.region_states.specs.region_basis.BasisOf.{basis_of}
use Rattle.texts.specs.case_texts.CaseTree.{case_tree}
use Rattle.texts.proofs.case_texts.case_trees.cases_tree.Given as goal

-- a tree for each case that was passed
abbrev pub invariant-loop-case : goal.invariant-loop-case
invariant-loop-case l = map view l.trees.items ≡ map (case_tree (basis_of l.parts)) (take l.case-index l.cases)

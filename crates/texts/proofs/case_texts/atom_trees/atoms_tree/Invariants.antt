use Rattle.std.proofs.Common.{◌≡◌, map, take}
use Rattle.serde_json.specs.Data.{no_members}
use Rattle.serde_json.specs.View.{members_view}
use Rattle.json_form.specs.Trees.{put_all}
use Rattle.region_states.specs.region_basis.BasisOf.{basis_of}
use Rattle.texts.specs.case_texts.CaseTree.{atom_member}
use Rattle.texts.proofs.case_texts.atom_trees.atoms_tree.Given as goal

-- a member for each atom that was passed
abbrev pub invariant-loop-told : goal.invariant-loop-told
invariant-loop-told l = members_view l.members.entries ≡ put_all no_members (map (atom_member (basis_of l.parts)) (take l.told-index l.atoms))

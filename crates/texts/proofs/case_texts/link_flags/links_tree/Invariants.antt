use Rattle.std.proofs.Common.{◌≡◌, flat_map, map, take}
use Rattle.std.specs.List.{enumerate_from}
use Rattle.serde_json.specs.Data.{no_members}
use Rattle.serde_json.specs.View.{members_view}
use Rattle.json_form.specs.Trees.{put_all}
use Rattle.region_states.specs.region_basis.BasisOf.{basis_of, host_at}
use Rattle.texts.specs.case_texts.CaseTree.{link_member}
use Rattle.texts.proofs.case_texts.link_flags.links_tree.Given as goal

-- a member for each hosted association that was passed
abbrev pub invariant-loop-index : goal.invariant-loop-index
invariant-loop-index l = members_view l.members.entries ≡ put_all no_members (map (link_member (basis_of l.parts) l.region.linked)
    (flat_map (host_at l.parts.cells.now.places l.region.set) (take l.index (enumerate_from 0 l.parts.model.now.assocs))))

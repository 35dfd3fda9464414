use Rattle.std.proofs.Common.{◌≡◌, map, take}
use Rattle.std.specs.List.{enumerate_from}
use Rattle.serde_json.specs.View.{members_view}
use Rattle.json_form.specs.Trees.{put_all}
use Rattle.entity_state.specs.InOrder.{lent_state}
use Rattle.entity_state.specs.StateTree.{set_member}
use Rattle.entity_state.proofs.state_tree.put_sets.Given as goal

-- a member for each set that was passed
abbrev pub invariant-loop-i : goal.invariant-loop-i
invariant-loop-i l = members_view l.members.entries ≡ put_all (members_view l.initial.members.entries) (map (set_member l.model (lent_state l.sorted)) (take l.i (enumerate_from 0 l.sets)))

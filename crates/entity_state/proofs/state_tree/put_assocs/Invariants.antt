use Rattle.std.proofs.Common.{◌≡◌, take, map, filter}
use Rattle.std.specs.List.{enumerate_from}
use Rattle.serde_json.specs.View.{members_view}
use Rattle.json_form.specs.Trees.{put_all}
use Rattle.entity_state.specs.InOrder.{lent_state}
use Rattle.entity_state.specs.StateTree.{assoc_member, is_independent}
use Rattle.entity_state.proofs.state_tree.put_assocs.Given as goal

-- a member for each independent association that was passed
abbrev pub invariant-loop-i : goal.invariant-loop-i
invariant-loop-i l = members_view l.members.entries
    ≡ put_all (members_view l.initial.members.entries) (map (assoc_member (lent_state l.sorted)) (filter (λ entry. is_independent entry.1) (take l.i (enumerate_from 0 l.assocs))))

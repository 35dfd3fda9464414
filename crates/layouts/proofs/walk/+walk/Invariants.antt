use Rattle.std.proofs.Common.{◌+◌, ◌*◌}
use Rattle.serde_json.specs.Data.{depth, members_depth}
use Rattle.serde_json.specs.View.{members_view, view}
use Rattle.json_form.specs.Nodes.{part_of}
use Rattle.groupings.specs.least_fault.Least.{IsLeast}
use Rattle.groupings.proofs.least_fault.Leasts.{AmongFirst}
use Rattle.layouts.specs.Faults.{fault_cmp}
use Rattle.layouts.specs.Inside.{IsItemFault}
use Rattle.layouts.proofs.Walks.{Passed}
use Rattle.layouts.proofs.walk.+walk.Given as goal

-- by how deep a node is; at one node, from the object or the array to its parts
abbrev pub decreases-first_fault : goal.decreases-first_fault
decreases-first_fault l = 5 * depth (part_of l.node) + 1

abbrev pub decreases-first_in_item : goal.decreases-first_in_item
decreases-first_in_item l = 5 * depth (part_of l.node) + 2

abbrev pub decreases-first_in_items : goal.decreases-first_in_items
decreases-first_in_items l = 5 * depth (part_of l.node)

abbrev pub decreases-first_in_member : goal.decreases-first_in_member
decreases-first_in_member l = 5 * depth (part_of l.node) + 3

abbrev pub decreases-first_in_part : goal.decreases-first_in_part
decreases-first_in_part l = 5 * depth (part_of l.node) + 2

abbrev pub decreases-first_in_members : goal.decreases-first_in_members
decreases-first_in_members l = 5 * members_depth (members_view l.members.now.entries) + 4

abbrev pub decreases-first_in_object : goal.decreases-first_in_object
decreases-first_in_object l = 5 * depth (part_of l.node)

abbrev pub invariant-first_in_items-loop-i : goal.invariant-first_in_items-loop-i
invariant-first_in_items-loop-i l = IsLeast fault_cmp (AmongFirst (λ i item. IsItemFault l.form i (view item)) l.item-items l.i) l.found

abbrev pub invariant-first_in_members-loop-name : goal.invariant-first_in_members-loop-name
invariant-first_in_members-loop-name l = Passed l.shape l.members.entries l.name-iterator l.found

use Rattle.std.proofs.Common.{◌≡◌, ◌++◌, take}
use Rattle.std.specs.List.{flat_map}
use Rattle.row_plans.specs.Altered.{altered_in}
use Rattle.row_plans.proofs.altered.tables.add_groups.Given as goal

-- the alterations of the groups so far are added
abbrev pub invariant-loop-group : goal.invariant-loop-group
invariant-loop-group l = l.found.items ≡ l.initial.found.items ++ flat_map (altered_in l.id) (take l.group-index l.groups)

use Rattle.std.proofs.Common.{◌≡◌}
use Rattle.groupings.specs.item_groups.Groups.{items_at, items_of}
use Rattle.groupings.proofs.item_groups.groups.group.Given as goal

-- the items so far stand at their keys
abbrev pub invariant-loop-key : goal.invariant-loop-key
invariant-loop-key g l = (key : _) → items_at g.K.Ord.cmp l.groups key ≡ items_of g.K.Ord.cmp l.yielded key

use Rattle.std.proofs.Common.{◌≡◌, ◌++◌, take}
use Rattle.region_partition.proofs.region_lists.choices.add_copies.Given as goal

-- the items so far have come
abbrev pub invariant-loop-item : goal.invariant-loop-item
invariant-loop-item g l = l.list ≡ l.initial.list ++ take l.item-index l.items

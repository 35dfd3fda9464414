use Rattle.std.proofs.Common.{◌≡◌, ◌++◌, map, take}
use Rattle.region_partition.proofs.region_lists.choices.add_beside.Given as goal

-- those with the lists so far have come
abbrev pub invariant-loop-second : goal.invariant-loop-second
invariant-loop-second g l = l.lists ≡ l.initial.lists ++ map (λ second. l.first ++ second) (take l.second-index l.seconds)

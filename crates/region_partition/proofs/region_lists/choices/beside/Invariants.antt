use Rattle.std.proofs.Common.{◌≡◌, take}
use Rattle.region_partition.specs.region_lists.Listing.{beside}
use Rattle.region_partition.proofs.region_lists.choices.beside.Given as goal

-- those of the lists so far have come
abbrev pub invariant-loop-first : goal.invariant-loop-first
invariant-loop-first g l = l.lists ≡ beside (take l.first-index l.first-items) l.seconds

use Rattle.std.proofs.Common.{◌≡◌, map, take}
use Rattle.regions.specs.Regions.{flagged}
use Rattle.region_partition.proofs.region_lists.choices.flag_lists.Given as goal

-- those of the flags so far have come
abbrev pub invariant-loop-flag : goal.invariant-loop-flag
invariant-loop-flag l = l.lists ≡ map (flagged l.id) (take l.flag-index l.flags)

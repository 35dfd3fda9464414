use Rattle.std.proofs.Common.{◌≡◌, map, take}
use Rattle.forced_entities.specs.Spots.{part_of}
use Rattle.forced_entities.proofs.spots.spot_of.Given as goal

-- the parts that were passed
abbrev pub invariant-loop-part : goal.invariant-loop-part
invariant-loop-part l = l.key.items ≡ map part_of (take l.part-index l.part-items)

use Rattle.std.proofs.Common.{◌≡◌, map, take}
use Rattle.groupings.specs.name_places.Hashes.{fed_all}
use Rattle.groupings.proofs.name_places.hashes.all_names.Given as goal

-- the hasher took in the names that were passed
abbrev pub invariant-loop-item : goal.invariant-loop-item
invariant-loop-item g l = l.hasher ≡ fed_all (map g.T.Named.name_in (take l.item-index l.items))

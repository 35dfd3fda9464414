use Rattle.std.proofs.Common.{◌≡◌, map, take}
use Rattle.table_owners.specs.Sources.{owner_by}
use Rattle.table_owners.proofs.owners.owners_of.Given as goal

-- the owners so far
abbrev pub invariant-loop-source : goal.invariant-loop-source
invariant-loop-source l = l.owners ≡ map (owner_by l.model l.mapping) (take l.source-index l.source-items)

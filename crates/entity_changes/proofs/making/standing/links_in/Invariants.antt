use Rattle.std.proofs.Common.{take}
use Rattle.entity_changes.specs.making.Standing.{TellsLinks}
use Rattle.entity_changes.proofs.making.standing.links_in.Given as goal

-- the links of the lists that were passed are there
abbrev pub invariant-loop-place : goal.invariant-loop-place
invariant-loop-place l = TellsLinks (take l.place l.lists) l.links

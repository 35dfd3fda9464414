use Rattle.std.proofs.Common.{take}
use Rattle.entity_changes.specs.making.Standing.{AddsLinks}
use Rattle.entity_changes.proofs.making.standing.add_links.Given as goal

-- the links that were passed are added
abbrev pub invariant-loop-link : goal.invariant-loop-link
invariant-loop-link l = AddsLinks l.assoc (take l.link-index l.list) l.initial.links l.links

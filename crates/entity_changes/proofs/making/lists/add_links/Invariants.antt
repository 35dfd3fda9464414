use Rattle.std.proofs.Common.{◌≡◌, ◌++◌, take}
use Rattle.entity_changes.specs.Spots.{link_spot}
use Rattle.entity_changes.specs.making.Fates.{survivors}
use Rattle.entity_changes.proofs.making.lists.add_links.Given as goal

-- what becomes of those that were passed stands there
abbrev pub invariant-loop-link : goal.invariant-loop-link
invariant-loop-link l = l.items ≡ l.initial.items ++ survivors l.fates (link_spot l.assoc) (take l.link-index l.links)

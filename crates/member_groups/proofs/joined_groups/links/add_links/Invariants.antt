use Rattle.std.proofs.Common.{take}
use Rattle.member_groups.specs.joined_groups.Writes.{AreMore}
use Rattle.member_groups.proofs.joined_groups.links.add_links.Given as goal

-- the links of the pairs so far are added
abbrev pub invariant-loop-pair : goal.invariant-loop-pair
invariant-loop-pair l = AreMore l.places l.fragment.table (take l.pair-index l.pair-items) l.initial.links.items l.links.items

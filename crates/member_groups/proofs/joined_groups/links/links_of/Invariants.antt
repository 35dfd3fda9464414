use Rattle.std.proofs.Common.{take}
use Rattle.member_groups.specs.joined_groups.Writes.{AreLinks}
use Rattle.member_groups.proofs.joined_groups.links.links_of.Given as goal

-- the links of the fragments so far
abbrev pub invariant-loop-fragment : goal.invariant-loop-fragment
invariant-loop-fragment l = AreLinks l.places (take l.fragment-index l.fragments) l.links.items

use Rattle.member_groups.specs.group_constants.Constants.{AreEmpty}
use Rattle.member_groups.proofs.group_constants.constants.empty_sets.Given as goal

-- the sets so far are empty
abbrev pub invariant-loop : goal.invariant-loop
invariant-loop l = AreEmpty l.counter l.sets.items

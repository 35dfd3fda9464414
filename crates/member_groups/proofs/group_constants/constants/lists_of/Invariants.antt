use Rattle.member_groups.specs.group_constants.Constants.{AreListed}
use Rattle.member_groups.proofs.group_constants.constants.lists_of.Given as goal

-- the sets so far have their lists
abbrev pub invariant-loop-set : goal.invariant-loop-set
invariant-loop-set l = AreListed l.yielded l.lists

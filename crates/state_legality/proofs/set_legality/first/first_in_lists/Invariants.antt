use Rattle.groupings.specs.least_fault.Least.{IsLeast}
use Rattle.groupings.proofs.least_fault.Leasts.{AmongFirst}
use Rattle.entity_state.specs.breach_order.Founds.{found_cmp}
use Rattle.state_legality.specs.set_legality.Found.{IsSetBreach}
use Rattle.state_legality.specs.set_legality.Tells.{entities_numbered}
use Rattle.state_legality.proofs.set_legality.first.first_in_lists.Given as goal

-- the least of what breaks the rules in the sets that were passed
abbrev pub invariant-loop-s : goal.invariant-loop-s
invariant-loop-s l = IsLeast found_cmp (AmongFirst (λ s set. IsSetBreach l.model s set (entities_numbered l.entities s)) l.sets l.s) l.found

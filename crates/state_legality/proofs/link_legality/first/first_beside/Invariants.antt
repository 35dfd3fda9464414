use Rattle.groupings.specs.least_fault.Least.{IsLeast}
use Rattle.groupings.proofs.least_fault.Leasts.{AmongFirst}
use Rattle.entity_state.specs.breach_order.Founds.{found_cmp}
use Rattle.state_legality.specs.link_legality.Tells.{state_of}
use Rattle.state_legality.proofs.link_legality.Flat.{AssocBreaks}
use Rattle.state_legality.proofs.link_legality.first.first_beside.Given as goal

-- the least of what is found at the associations that were passed
abbrev pub invariant-loop-i : goal.invariant-loop-i
invariant-loop-i l = IsLeast found_cmp (AmongFirst (AssocBreaks l.model (state_of l.entities l.links)) l.assocs l.i) l.found

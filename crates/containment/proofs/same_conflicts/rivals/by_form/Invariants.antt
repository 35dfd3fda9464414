use Rattle.member_groups.specs.group_numbers.Numbers.{HoldsEach}
use Rattle.region_states.specs.region_basis.BasisOf.{basis_of}
use Rattle.containment.specs.same_conflicts.Rivals.{IsFormAt}
use Rattle.containment.proofs.same_conflicts.rivals.by_form.Given as goal

-- the regions so far have their forms
abbrev pub invariant-loop-place : goal.invariant-loop-place
invariant-loop-place l = HoldsEach (IsFormAt (basis_of l.parts) l.written) l.place l.formed.items

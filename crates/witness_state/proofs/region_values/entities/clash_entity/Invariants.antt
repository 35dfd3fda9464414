use Rattle.std.proofs.Common.{◌≡◌, false, take}
use Rattle.std.specs.List.{list_any}
use Rattle.conflict_laws.specs.clash.ClashValues.{differ_under}
use Rattle.region_states.specs.region_basis.BasisOf.{basis_of}
use Rattle.witness_state.specs.region_values.Changes.{by_change}
use Rattle.witness_state.proofs.region_values.entities.clash_entity.Given as goal

-- by none of the changes so far the two differ
abbrev pub invariant-loop-change : goal.invariant-loop-change
invariant-loop-change l = list_any (λ change. differ_under l.one l.two (by_change (basis_of l.parts) l.region change)) (take l.change-index l.change-items) ≡ false

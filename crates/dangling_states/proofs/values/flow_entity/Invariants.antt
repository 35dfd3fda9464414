use Rattle.std.proofs.Common.{◌≡◌, map, take}
use Rattle.region_states.specs.region_basis.BasisOf.{basis_of}
use Rattle.dangling_keys.specs.FlowStates.{flow_values}
use Rattle.dangling_states.proofs.values.flow_entity.Given as goal

-- the values of the properties so far have come
abbrev pub invariant-loop-property : goal.invariant-loop-property
invariant-loop-property l = l.values ≡ map (flow_values (basis_of l.parts) l.row l.region l.not_null).prop (take l.property-index l.property-items)

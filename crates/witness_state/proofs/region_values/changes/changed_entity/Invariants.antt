use Rattle.std.proofs.Common.{◌≡◌, map, take}
use Rattle.std.specs.Option.{option_copied}
use Rattle.region_states.specs.region_basis.BasisOf.{basis_of}
use Rattle.witness_state.specs.region_values.Changes.{by_change}
use Rattle.witness_state.proofs.region_values.changes.changed_entity.Given as goal

-- the values of the properties so far have come
abbrev pub invariant-loop-property : goal.invariant-loop-property
invariant-loop-property l = l.values ≡ map (by_change (basis_of l.parts) l.region (option_copied l.change)).prop (take l.property-index l.property-items)

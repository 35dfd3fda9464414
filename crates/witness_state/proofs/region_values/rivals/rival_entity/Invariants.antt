use Rattle.std.proofs.Common.{◌≡◌, map, take}
use Rattle.region_states.specs.defaults.Defaults.{changed, default_valuation}
use Rattle.region_states.specs.region_basis.BasisOf.{basis_of}
use Rattle.conflict_laws.specs.rival.RivalValues.{rival_value}
use Rattle.witness_state.proofs.region_values.rivals.rival_entity.Given as goal

-- the values of the properties so far have come
abbrev pub invariant-loop-property : goal.invariant-loop-property
invariant-loop-property l = l.values ≡ map (changed (default_valuation (basis_of l.parts) 0 l.rival.region.now)
    (rival_value (basis_of l.parts) l.rival.first.now l.rival.second.now l.rival.region.now l.rival.other.now)).prop (take l.property-index l.property-items)

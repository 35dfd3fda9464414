use Rattle.std.proofs.Common.{◌≡◌, map, take}
use Rattle.region_states.specs.region_basis.BasisOf.{basis_of}
use Rattle.dangling_keys.specs.DanglingStates.{principal_values}
use Rattle.dangling_states.proofs.principal.principal_entity.Given as goal

-- the values of the properties so far have come
abbrev pub invariant-loop-property : goal.invariant-loop-property
invariant-loop-property l = l.values ≡ map (principal_values (basis_of l.parts) l.referring.look.of.now l.referring.key.now l.pairing l.region).prop (take l.property-index l.property-items)

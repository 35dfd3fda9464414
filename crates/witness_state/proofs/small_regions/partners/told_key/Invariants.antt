use Rattle.std.proofs.Common.{◌≡◌, map, not, take}
use Rattle.region_states.specs.defaults.Defaults.{default_part}
use Rattle.region_states.specs.region_basis.BasisOf.{basis_of}
use Rattle.witness_state.proofs.small_regions.partners.told_key.Given as goal

-- the usual values of the properties so far have come
abbrev pub invariant-loop-property : goal.invariant-loop-property
invariant-loop-property l = l.key ≡ map (default_part (basis_of l.parts) l.row l.host.assoc (not l.host.first_hosts)) (take l.property-index l.property-items)

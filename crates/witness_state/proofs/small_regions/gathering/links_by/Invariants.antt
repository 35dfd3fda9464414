use Rattle.std.proofs.Common.{◌≡◌, flat_map, take}
use Rattle.round_trip.specs.Words.{key_of}
use Rattle.host_states.specs.FocusStates.{by_assoc}
use Rattle.region_states.specs.region_basis.BasisOf.{basis_of}
use Rattle.witness_state.specs.SmallRegions.{host_of, link_with}
use Rattle.witness_state.proofs.small_regions.gathering.links_by.Given as goal

-- the links by the associations so far have come
abbrev pub invariant-loop-host : goal.invariant-loop-host
invariant-loop-host l = l.links ≡ flat_map (λ host. by_assoc (basis_of l.parts) (link_with (basis_of l.parts) l.row (key_of l.parts.model.now l.entity)) (host_of host)) (take l.host-index l.hosts)

use Rattle.std.proofs.Common.{◌≡◌, ◌∷◌, flat_map, take}
use Rattle.host_states.specs.FocusStates.{by_assoc, partner_of}
use Rattle.region_states.specs.region_basis.BasisOf.{basis_of}
use Rattle.witness_state.specs.SmallRegions.{host_of, usual}
use Rattle.witness_state.proofs.small_regions.gathering.given_by.Given as goal

-- the partners by the associations so far have come behind the entity
abbrev pub invariant-loop-host : goal.invariant-loop-host
invariant-loop-host l = l.given ≡ l.fn.focus
    ∷ flat_map (λ host. by_assoc (basis_of l.parts) (partner_of (basis_of l.parts) l.row (usual (basis_of l.parts) l.row)) (host_of host)) (take l.host-index l.hosts)

use Rattle.std.proofs.Common.{◌≡◌, ◌++◌, flat_map, take}
use Rattle.host_states.specs.FocusStates.{by_assoc}
use Rattle.region_states.specs.region_basis.BasisOf.{basis_of}
use Rattle.witness_state.specs.SmallRegions.{host_of}
use Rattle.dangling_states.specs.Numbers.{number_link}
use Rattle.dangling_states.proofs.partners.add_partner_links.Given as goal

-- the links by the associations so far have come
abbrev pub invariant-loop-host : goal.invariant-loop-host
invariant-loop-host l = l.links ≡ l.initial.links ++ flat_map (λ host. by_assoc (basis_of l.parts) (number_link (basis_of l.parts) l.row l.key) (host_of host)) (take l.host-index l.hosts)

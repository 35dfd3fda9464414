use Rattle.std.proofs.Common.{◌≡◌, ◌++◌, flat_map, take}
use Rattle.host_states.specs.FocusStates.{by_assoc}
use Rattle.region_states.specs.region_basis.BasisOf.{basis_of}
use Rattle.witness_state.specs.SmallRegions.{host_of}
use Rattle.dangling_states.specs.Numbers.{number_root}
use Rattle.dangling_states.proofs.partners.add_partner_roots.Given as goal

-- the keys of the partners by the associations so far have come
abbrev pub invariant-loop-host : goal.invariant-loop-host
invariant-loop-host l = l.roots ≡ l.initial.roots ++ flat_map (λ host. by_assoc (basis_of l.parts) (number_root (basis_of l.parts) l.row) (host_of host)) (take l.host-index l.hosts)

use Rattle.std.proofs.Common.{◌≡◌, filter, flat_map, take}
use Rattle.std.specs.List.{enumerate_from}
use Rattle.regions.specs.Symbols.{is_linked}
use Rattle.region_states.specs.region_basis.BasisOf.{basis_of, host_at}
use Rattle.forced_entities.specs.Listed.{partner_by}
use Rattle.forced_entities.proofs.stepping.partners.Given as goal

-- the partners by the associations so far have come
abbrev pub invariant-loop-index : goal.invariant-loop-index
invariant-loop-index l = l.list ≡ flat_map (λ entry. flat_map (partner_by (basis_of l.parts))
    (filter (λ host. is_linked (basis_of l.parts) l.region.linked host.assoc) (host_at l.parts.cells.now.places l.region.set entry))) (take l.index (enumerate_from 0 l.parts.model.now.assocs))

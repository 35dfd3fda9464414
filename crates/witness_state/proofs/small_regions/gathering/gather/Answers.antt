use Rattle.std.proofs.Common.{◌∷◌, ap, ◌∙◌}
use Rattle.round_trip.specs.Words.{key_of}
use Rattle.host_states.specs.FocusStates.{by_assoc, partner_of}
use Rattle.region_states.specs.region_basis.BasisOf.{basis_of}
use Rattle.witness_state.specs.SmallRegions.{link_with, usual}
use Rattle.witness_state.proofs.small.Hosted.{by_hosts}
use Rattle.witness_state.proofs.small_regions.gathering.gather.Goals as goal

pub returns-clause-given : goal.returns-clause-given
returns-clause-given c =
    let basis = basis_of c.args.parts.now in
    c.in_ok-given.ensures ∙ ap (λ partners. record { set = c.args.region.now.set; entity = c.args.entity } ∷ partners)
    (by_hosts basis c.args.region.now (by_assoc basis (partner_of basis c.args.row (usual basis c.args.row))) c.as_slice-2.result.now c.in_ok-hosts.hosts c.as_slice-2.ensures.items c.in_ok-hosts.ensures)

pub returns-clause-links : goal.returns-clause-links
returns-clause-links c =
    let basis = basis_of c.args.parts.now in
    c.in_ok-links.ensures
    ∙ by_hosts basis c.args.region.now (by_assoc basis (link_with basis c.args.row (key_of basis.schema.model c.args.entity))) c.as_slice.result.now c.in_ok-hosts.hosts c.as_slice.ensures.items
    c.in_ok-hosts.ensures

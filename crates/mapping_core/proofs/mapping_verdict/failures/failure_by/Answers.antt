use Rattle.region_states.specs.region_basis.BasisOf.{basis_of}
use Rattle.mapping_core.proofs.mapping_verdict.Conflicts.{first_is}
use Rattle.mapping_core.proofs.mapping_verdict.failures.failure_by.Goals as goal

pub build-requires : goal.build-requires
build-requires c =
    let parts = c.args.parts.now in
    first_is parts c.requires.parts c.args.kind c.requires.earlier c.in-Some.conflict (c.in_ok-conflict.ensures.told c.in-Some.conflict c.in-Some.is)

-- no set and no association has a conflict of the kind
pub returns-in-None-clause-none : goal.returns-in-None-clause-none
returns-in-None-clause-none c = λ same.
    let parts = c.args.parts.now in
    c.a_mapping_round_trips_place_by_place.ensures.none (basis_of parts) (c.parts_are_a_basis.ensures.basis parts c.requires.parts) c.requires.parts.limits c.args.kind
    c.requires.kind c.requires.earlier (c.in_ok-conflict.ensures.none c.in-None.is) (c.in_ok-conflict.ensures.no_links c.in-None.is)

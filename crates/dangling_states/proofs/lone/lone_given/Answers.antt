use Rattle.region_states.specs.region_basis.BasisOf.{basis_of}
use Rattle.dangling_states.proofs.Alone.{entity_given_told, entity_links_told}
use Rattle.dangling_states.proofs.lone.lone_given.Goals as goal

pub returns-in_ok-entity-in-Entity-clause-given : goal.returns-in_ok-entity-in-Entity-clause-given
returns-in_ok-entity-in-Entity-clause-given c =
    entity_given_told (basis_of c.args.parts.now) c.args.referring.look.of.now c.args.referring.key.now c.args.referring.row c.requires.referring.row c.args.referring.not_null.now
    c.requires.referring.not_null c.in-Entity.region c.in-Entity.is c.in_ok-entity-in-Entity.entity c.in_ok-entity-in-Entity.ensures c.gather.result c.gather.ensures.given

pub returns-in_ok-entity-in-Entity-clause-links : goal.returns-in_ok-entity-in-Entity-clause-links
returns-in_ok-entity-in-Entity-clause-links c =
    entity_links_told (basis_of c.args.parts.now) c.args.referring.look.of.now c.args.referring.key.now c.args.referring.row c.requires.referring.row c.args.referring.not_null.now
    c.requires.referring.not_null c.in-Entity.region c.in-Entity.is c.in_ok-entity-in-Entity.entity c.in_ok-entity-in-Entity.ensures c.gather.result c.gather.ensures.links

use Rattle.std.proofs.Common.{Some}
use Rattle.region_states.specs.region_basis.BasisOf.{basis_of}
use Rattle.region_states.proofs.region_basis.Bases.{basis_is}
use Rattle.dangling_keys.specs.FlowStates.{flow_values}
use Rattle.dangling_states.proofs.Alone.{entity_has, entity_state_told, link_state_told}
use Rattle.dangling_states.proofs.lone.lone_state.Goals as goal

pub region_state-requires-clause-values : goal.region_state-requires-clause-values
region_state-requires-clause-values c = (
  flow_values (basis_of c.args.parts.now) c.args.referring.row c.in-Entity.region c.args.referring.not_null.now,
  entity_has (basis_of c.args.parts.now) c.args.referring.look.of.now c.args.referring.key.now c.args.referring.row c.requires.referring.row c.args.referring.not_null.now
      c.requires.referring.not_null c.in-Entity.region c.in-Entity.is (basis_is c.args.parts.now c.requires.parts) c.requires.parts.limits c.requires.referring.few c.requires.refers
      c.in_ok-entity-in-Entity.entity c.in_ok-entity-in-Entity.ensures,
)

pub returns-in_ok-entity-in-Entity : goal.returns-in_ok-entity-in-Entity
returns-in_ok-entity-in-Entity c =
    entity_state_told (basis_of c.args.parts.now) c.args.referring.look.of.now c.args.referring.key.now c.args.referring.row c.requires.referring.row c.args.referring.not_null.now
    c.requires.referring.not_null c.in-Entity.region c.in-Entity.is (basis_is c.args.parts.now c.requires.parts) c.requires.parts.limits c.requires.referring.few c.requires.refers
    c.in_ok-entity-in-Entity.entity c.in_ok-entity-in-Entity.ensures c.region_state.result c.region_state.ensures

pub returns-in-Link : goal.returns-in-Link
returns-in-Link c =
    link_state_told (basis_of c.args.parts.now) c.args.referring.look.of.now c.args.referring.key.now c.args.referring.row c.requires.referring.row c.in-Link.assoc c.in-Link.is
    (Some c.at-declared.result.now) c.at-declared.ensures c.link_state.result c.link_state.ensures

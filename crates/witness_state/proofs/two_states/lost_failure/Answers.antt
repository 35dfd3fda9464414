use Rattle.std.proofs.Common.{subst, sym}
use Rattle.region_states.specs.region_basis.BasisOf.{basis_of}
use Rattle.region_states.specs.declared.conflicts.conflict.Conflict.TheVariants as conflict
use Rattle.conflict_laws.specs.same.SameValues.{with_one, with_other}
use Rattle.witness_state.specs.Shown.{IsShownOf}
use Rattle.witness_state.proofs.told.Same.{lost_few, lost_paired, lost_shown, lost_within}
use Rattle.witness_state.proofs.two_states.lost_failure.Goals as goal

pub set_place-requires : goal.set_place-requires
set_place-requires c = lost_within c.args.parts.now c.args.region.now c.args.property c.requires

pub pair_of_states-requires-clause-few : goal.pair_of_states-requires-clause-few
pair_of_states-requires-clause-few c = lost_few c.args.parts.now c.args.region.now c.args.property c.requires

pub pair_of_states-requires-clause-pair : goal.pair_of_states-requires-clause-pair
pair_of_states-requires-clause-pair c =
    let basis = basis_of c.args.parts.now in (
      with_one basis c.args.region.now c.args.property,
      with_other basis c.args.region.now c.args.property,
      lost_paired c.args.parts.now c.args.region.now c.args.property c.requires c.in_ok-one.one c.in_ok-one.two c.in_ok-one.ensures.one c.in_ok-one.ensures.other,
    )

pub returns : goal.returns
returns c = subst (IsShownOf (basis_of c.args.parts.now) (conflict.Lost c.args.region.now c.args.property)) (sym c.beside.ensures)
    (lost_shown c.args.parts.now c.args.region.now c.args.property c.requires c.in_ok-one.one c.in_ok-one.two c.in_ok-one.ensures.one c.in_ok-one.ensures.other
    c.in_ok-place.place c.in_ok-place.ensures c.in_ok-states.states c.in_ok-states.ensures)

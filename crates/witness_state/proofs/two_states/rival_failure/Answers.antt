use Rattle.std.proofs.Common.{subst, sym}
use Rattle.region_states.specs.region_basis.BasisOf.{basis_of}
use Rattle.region_states.specs.declared.conflicts.conflict.Conflict.TheVariants as conflict
use Rattle.conflict_laws.specs.rival.RivalValues.{first_values, second_values}
use Rattle.witness_state.specs.Shown.{IsShownOf}
use Rattle.witness_state.proofs.told.Same.{rival_few, rival_within, rivals_paired, rivals_shown}
use Rattle.witness_state.proofs.two_states.rival_failure.Goals as goal

pub set_place-requires : goal.set_place-requires
set_place-requires c = rival_within c.args.parts.now c.args.one.now c.args.two.now c.requires

pub pair_of_states-requires-clause-few : goal.pair_of_states-requires-clause-few
pair_of_states-requires-clause-few c = rival_few c.args.parts.now c.args.one.now c.args.two.now c.requires

pub pair_of_states-requires-clause-pair : goal.pair_of_states-requires-clause-pair
pair_of_states-requires-clause-pair c =
    let basis = basis_of c.args.parts.now in (
      first_values basis c.args.one.now c.args.two.now,
      second_values basis c.args.one.now c.args.two.now,
      rivals_paired c.args.parts.now c.args.one.now c.args.two.now c.requires c.in_ok-first.first c.in_ok-first.second c.in_ok-first.ensures.first c.in_ok-first.ensures.second,
    )

pub returns : goal.returns
returns c = subst (IsShownOf (basis_of c.args.parts.now) (conflict.Rival c.args.one.now c.args.two.now)) (sym c.beside.ensures)
    (rivals_shown c.args.parts.now c.args.one.now c.args.two.now c.requires c.in_ok-first.first c.in_ok-first.second c.in_ok-first.ensures.first c.in_ok-first.ensures.second
    c.in_ok-place.place c.in_ok-place.ensures c.in_ok-states.states c.in_ok-states.ensures)

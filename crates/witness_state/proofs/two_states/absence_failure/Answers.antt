use Rattle.std.proofs.Common.{subst, sym}
use Rattle.region_states.specs.defaults.Defaults.{default_valuation}
use Rattle.region_states.specs.region_basis.BasisOf.{basis_of}
use Rattle.region_states.specs.declared.conflicts.conflict.Conflict.TheVariants as conflict
use Rattle.witness_state.specs.Shown.{IsShownOf}
use Rattle.witness_state.proofs.told.Same.{absent_few, absent_has, absent_one, absent_shown, absent_within, several_first}
use Rattle.witness_state.proofs.two_states.absence_failure.Goals as goal

pub lost_failure-requires : goal.lost_failure-requires
lost_failure-requires c = several_first c.args.parts.now c.args.region.now c.requires c.in-Some.property (sym c.in-Some.ensures)

pub set_place-requires : goal.set_place-requires
set_place-requires c = absent_within c.args.parts.now c.args.region.now c.requires

pub leaving_states-requires-clause-few : goal.leaving_states-requires-clause-few
leaving_states-requires-clause-few c = absent_few c.args.parts.now c.args.region.now c.requires

pub leaving_states-requires-clause-one : goal.leaving_states-requires-clause-one
leaving_states-requires-clause-one c = absent_one c.args.parts.now c.args.region.now c.requires (sym c.in_default.ensures)

pub leaving_states-requires-clause-values : goal.leaving_states-requires-clause-values
leaving_states-requires-clause-values c =
    (default_valuation (basis_of c.args.parts.now) 0 c.args.region.now, absent_has c.args.parts.now c.args.region.now c.requires c.in_ok-entity.entity c.in_ok-entity.ensures)

pub returns : goal.returns
returns c = subst (IsShownOf (basis_of c.args.parts.now) (conflict.Absent c.args.region.now)) (sym c.beside.ensures)
    (absent_shown c.args.parts.now c.args.region.now c.requires (sym c.in_default.ensures) c.in_ok-entity.entity c.in_ok-entity.ensures
    c.in_ok-place.place c.in_ok-place.ensures c.in_ok-states.states c.in_ok-states.ensures)

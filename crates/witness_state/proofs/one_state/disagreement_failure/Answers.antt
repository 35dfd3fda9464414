use Rattle.std.proofs.Common.{IfOk, None, refl, sym, subst, arith}
use Rattle.round_trip.specs.declared.FailKind.TheVariants as kind
use Rattle.regions.specs.declared.pattern.Focus.{Focus}
use Rattle.regions.specs.declared.pattern.Focus.TheVariants as focus
use Rattle.region_states.specs.region_basis.BasisOf.{basis_of}
use Rattle.region_states.specs.defaults.Defaults.{default_valuation}
use Rattle.region_states.specs.declared.conflicts.conflict.Conflict.TheVariants as conflict
use Rattle.witness_state.specs.FirstConflict.{IsFirstConflict}
use Rattle.witness_state.specs.Shown.{IsShownOf}
use Rattle.witness_state.proofs.told.Links.{shown_link}
use Rattle.witness_state.proofs.told.Listed.{link_joined, region_listed}
use Rattle.witness_state.proofs.told.Values.{usual_has}
use Rattle.witness_state.proofs.one_state.disagreement_failure.Goals as goal

pub region_state-requires-clause-values : goal.region_state-requires-clause-values
region_state-requires-clause-values c =
    let parts = c.args.parts.now in
    let first = subst (λ (of : Focus). IsFirstConflict parts (conflict.Disagree of c.args.name.now)) c.in-Entity.is c.requires in
    let listed = region_listed (basis_of parts) c.in-Entity.region first.of_one in
    (default_valuation (basis_of parts) 0 c.in-Entity.region, usual_has parts first.are listed.0 c.in-Entity.region listed.1 0 (omega arith) c.in_ok-entity-in-Entity.entity c.in_ok-entity-in-Entity.ensures)

pub returns-in_ok-state-in-Entity : goal.returns-in_ok-state-in-Entity
returns-in_ok-state-in-Entity c =
    let parts = c.args.parts.now in
    let first = subst (λ (of : Focus). IsFirstConflict parts (conflict.Disagree of c.args.name.now)) c.in-Entity.is c.requires in
    let listed = region_listed (basis_of parts) c.in-Entity.region first.of_one in
    let has = usual_has parts first.are listed.0 c.in-Entity.region listed.1 0 (omega arith) c.in_ok-entity-in-Entity.entity c.in_ok-entity-in-Entity.ensures in
    let small = c.in_ok-state-in-Entity.ensures (default_valuation (basis_of parts) 0 c.in-Entity.region) has in
    subst (λ (of : Focus). IsShownOf (basis_of parts) (conflict.Disagree of c.args.name.now) c.alone.result) (sym c.in-Entity.is)
    (subst (IsShownOf (basis_of parts) (conflict.Disagree (focus.Entity c.in-Entity.region) c.args.name.now)) (sym c.alone.ensures) (record {
      of_kind = refl;
      at_place = c.in_ok-place-in-Entity.ensures;
      states = λ k. (small k, None);
    }))

pub returns-in_ok-place-in-Link : goal.returns-in_ok-place-in-Link
returns-in_ok-place-in-Link c =
    let parts = c.args.parts.now in
    let first = subst (λ (of : Focus). IsFirstConflict parts (conflict.Disagree of c.args.name.now)) c.in-Link.is c.requires in
    let own = link_joined (basis_of parts) c.in-Link.assoc first.of_one in
    subst (λ (of : Focus). IfOk c.joined_failure.result (IsShownOf (basis_of parts) (conflict.Disagree of c.args.name.now))) (sym c.in-Link.is)
    (shown_link parts first.are c.in-Link.assoc own.0 own.1 c.joined_failure.result kind.Disagrees c.in_ok-place-in-Link.place c.joined_failure.ensures
    (conflict.Disagree (focus.Link c.in-Link.assoc) c.args.name.now) refl refl (c.at-declared.result.now, c.at-declared.ensures, c.in_ok-place-in-Link.ensures))

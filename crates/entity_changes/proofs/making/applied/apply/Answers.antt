use Rattle.std.proofs.Common.{◌∙◌, ap, sym, subst}
use Rattle.round_trip.specs.Words.{IsState}
use Rattle.entity_changes.specs.Changes.{after}
use Rattle.entity_changes.proofs.same.States.{states_after}
use Rattle.entity_changes.proofs.making.applied.apply.Goals as goal

-- the state is that after the changes
pub returns-clause-state : goal.returns-clause-state
returns-clause-state c = subst (IsState c.args.model.now)
    (sym (c.in_ok-new.ensures ∙ ap (after c.args.model.now c.args.state.now) c.as_slice-2.ensures.items))
    (states_after c.args.model.now c.args.changes.now c.args.state.now c.requires.is_state c.requires.are_changes)

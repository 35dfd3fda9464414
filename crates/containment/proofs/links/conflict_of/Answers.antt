use Rattle.std.proofs.Common.{◌≡◌, ap, subst, ◌∙◌, sym}
use Rattle.std.proofs.lemmas.Result.{IfOk-weaker}
use Rattle.emc_base.proofs.Lists.{item_at}
use Rattle.regions.specs.declared.pattern.Focus.TheVariants as focus
use Rattle.region_states.specs.conflicts.Conflicts.{IsLinkConflictAt}
use Rattle.region_states.specs.declared.conflicts.conflict.Conflict.{Conflict}
use Rattle.region_states.specs.region_basis.BasisOf.{basis_of}
use Rattle.round_trip.specs.Words.{End}
use Rattle.containment.specs.Found.{FindsOne}
use Rattle.containment.specs.Places.{many_found}
use Rattle.std.specs.Prelude.{None, Option, Some}
use Rattle.containment.proofs.links.Telling.{constrained_none, hosted_found, hosted_none, joined_found, joined_none, unmapped_none, unmapped_one}
use Rattle.containment.proofs.links.conflict_of.Goals as goal

pub returns-in-Joined-clause-told : goal.returns-in-Joined-clause-told
returns-in-Joined-clause-told c =
    let parts = c.args.parts.now in
    let found = item_at parts.model.now.assocs c.args.assoc.index c.requires.assoc in
    IfOk-weaker c.joined_conflict.result (FindsOne (basis_of parts) (focus.Link c.args.assoc) c.args.kind)
    (λ (found : Option Conflict). (made : Conflict) → found ≡ Some made → IsLinkConflictAt (basis_of parts) c.args.assoc c.args.kind made)
    (joined_found parts c.requires.parts c.args.assoc found.0 found.1 c.link_place.result c.link_place.ensures c.args.kind c.in-Joined.field-0 c.in-Joined.is)
    c.joined_conflict.ensures

pub returns-in-Joined-clause-free : goal.returns-in-Joined-clause-free
returns-in-Joined-clause-free c =
    let parts = c.args.parts.now in
    let found = item_at parts.model.now.assocs c.args.assoc.index c.requires.assoc in
    IfOk-weaker c.joined_conflict.result (FindsOne (basis_of parts) (focus.Link c.args.assoc) c.args.kind)
    (λ (found : Option Conflict). found ≡ None → (made : Conflict) → ¬ IsLinkConflictAt (basis_of parts) c.args.assoc c.args.kind made)
    (joined_none parts c.requires.parts c.args.assoc found.0 found.1 c.link_place.result c.link_place.ensures c.args.kind c.in-Joined.field-0 c.in-Joined.is)
    c.joined_conflict.ensures

pub returns-in-Hosted-clause-told : goal.returns-in-Hosted-clause-told
returns-in-Hosted-clause-told c made is =
    let parts = c.args.parts.now in
    hosted_found parts c.requires.parts c.args.assoc c.at-declared.result.now c.at-declared.ensures c.link_place.result c.link_place.ensures c.args.kind
    c.in-Hosted.first_hosts c.in-Hosted.fragment c.in-Hosted.is made
    (sym (c.many_conflict.ensures ∙ ap (λ (end : End). many_found c.args.kind c.args.assoc end.mult) c.partner_end.ensures) ∙ is)

pub returns-in-Hosted-clause-free : goal.returns-in-Hosted-clause-free
returns-in-Hosted-clause-free c none made =
    let parts = c.args.parts.now in
    hosted_none parts c.requires.parts c.args.assoc c.at-declared.result.now c.at-declared.ensures c.link_place.result c.link_place.ensures c.args.kind
    c.in-Hosted.first_hosts c.in-Hosted.fragment c.in-Hosted.is
    (sym (c.many_conflict.ensures ∙ ap (λ (end : End). many_found c.args.kind c.args.assoc end.mult) c.partner_end.ensures) ∙ none) made

pub returns-in-Unmapped-clause-told : goal.returns-in-Unmapped-clause-told
returns-in-Unmapped-clause-told c made is =
    let parts = c.args.parts.now in
    let found = item_at parts.model.now.assocs c.args.assoc.index c.requires.assoc in
    unmapped_one parts c.requires.parts c.args.assoc found.0 found.1 c.link_place.result c.link_place.ensures c.args.kind c.in-Unmapped.is made (sym c.unmapped_conflict.ensures ∙ is)

pub returns-in-Unmapped-clause-free : goal.returns-in-Unmapped-clause-free
returns-in-Unmapped-clause-free c none made =
    let parts = c.args.parts.now in
    let found = item_at parts.model.now.assocs c.args.assoc.index c.requires.assoc in
    unmapped_none parts c.requires.parts c.args.assoc found.0 found.1 c.link_place.result c.link_place.ensures c.args.kind c.in-Unmapped.is (sym c.unmapped_conflict.ensures ∙ none) made

pub returns-in-Constraint-clause-free : goal.returns-in-Constraint-clause-free
returns-in-Constraint-clause-free c none made =
    let parts = c.args.parts.now in
    let found = item_at parts.model.now.assocs c.args.assoc.index c.requires.assoc in
    constrained_none parts c.requires.parts c.args.assoc found.0 found.1 c.link_place.result c.link_place.ensures c.args.kind c.in-Constraint.is made

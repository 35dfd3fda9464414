use Rattle.std.proofs.Common.{◌≡◌, ◌∷◌, ◌++◌, [], ℕ, List, append-nil, append_assoc, Contains, sym, ap, subst, subst₂, ◌∙◌}
use Rattle.std.proofs.lemmas.List.{nil_from_length}
use Rattle.std.proofs.lemmas.List.Elements.{All-contains, Contains-append_left}
use Rattle.entity_changes.specs.declared.change.Change.{Change}
use Rattle.entity_changes.specs.making.Fates.{Foretells, HasSize}
use Rattle.entity_changes.specs.making.Places.{HasPlace}
use Rattle.entity_changes.proofs.making.Made.{foretells_none}
use Rattle.entity_changes.proofs.Pushes.{push_last}
use Rattle.entity_changes.proofs.making.foretold.Foretold.of.Goals as goal

pub loop-change-init : goal.loop-change-init
loop-change-init c =
    let rest : c.into_iter-change-iterator.result.iter.rest.now ≡ c.args.changes.now =
    ap (λ turned. turned.iter.rest.now) c.into_iter-change-iterator.ensures.into_iter_gives ∙ ap (λ iter. iter.rest.now) c.rev-change-items.ensures.source
    ∙ c.iter.ensures.rest in
    let fresh = c.in_ok-told.ensures in (
      record { entities = fresh.0.size; links = fresh.1.size },
      [],
      sym rest ∙ sym (append-nil c.into_iter-change-iterator.result.iter.rest.now),
      foretells_none c.args.model.now c.in_ok-told.told c.args.sets c.args.assocs fresh.0 fresh.1,
    )

pub take-requires : goal.take-requires
take-requires c =
    let changes = c.args.changes.now in
    let one : Change = c.in-Some.change.now in
    let left = c.next.new.self.iter.rest.now in
    let size : HasSize c.args.sets c.args.assocs c.loop-change.told = c.loop-change.invariant.0 in
    let inside : Contains changes one = subst (λ (list : List Change). Contains list one)
    (sym (c.loop-change.invariant.2 ∙ ap (λ (list : List Change). list ++ c.loop-change.invariant.1) c.in-Some.ensures.steps))
    (Contains-append_left (left ++ one ∷ []) c.loop-change.invariant.1 one (push_last left one)) in
    let P : ℕ → ℕ → Type 0 = λ sets assocs. HasPlace sets assocs one in
    subst₂ P (sym size.entities) (sym size.links) (All-contains (HasPlace c.args.sets c.args.assocs) changes one c.requires inside)

pub loop-change-preserved : goal.loop-change-preserved
loop-change-preserved c =
    let one : Change = c.in-Some.change.now in
    let left = c.next.new.self.iter.rest.now in
    let later : List Change = c.loop-change.invariant.1 in
    let size : HasSize c.args.sets c.args.assocs c.loop-change.told = c.loop-change.invariant.0 in
    let more = c.in_ok-take.ensures in (
      record { entities = more.size.entities ∙ size.entities; links = more.size.links ∙ size.links },
      one ∷ later,
      c.loop-change.invariant.2 ∙ ap (λ (list : List Change). list ++ later) c.in-Some.ensures.steps ∙ append_assoc left (one ∷ []) later,
      more.told later c.loop-change.invariant.3,
    )

pub returns-clause-size : goal.returns-clause-size
returns-clause-size c = c.loop-change.invariant.0

pub returns-clause-told : goal.returns-clause-told
returns-clause-told c =
    let rest = c.loop-change.change-iterator.iter.rest.now in
    subst (λ (list : List Change). Foretells c.args.model.now list c.loop-change.told)
    (sym (c.loop-change.invariant.2 ∙ ap (λ (list : List Change). list ++ c.loop-change.invariant.1)
    (nil_from_length rest c.in-None.ensures.steps.0))) c.loop-change.invariant.3

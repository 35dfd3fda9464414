use Rattle.std.proofs.Common.{◌≡◌, ◌∷◌, ◌++◌, [], ℕ, List, append-nil, append_assoc, Contains, sym, ap, subst, ◌∙◌}
use Rattle.std.proofs.lemmas.List.{nil_from_length}
use Rattle.std.proofs.lemmas.List.Elements.{All-contains, Contains-append_left}
use Rattle.row_changes.specs.declared.change.RowChange.{RowChange}
use Rattle.entity_changes.proofs.Pushes.{push_last}
use Rattle.delta_plan.specs.Running.{Foretells, IsOfTable}
use Rattle.delta_plan.proofs.running.Made.{foretells_none}
use Rattle.delta_plan.proofs.running.foretold.fates_of.Goals as goal

pub loop-change-init : goal.loop-change-init
loop-change-init c =
    let rest : c.into_iter-change-iterator.result.iter.rest.now ≡ c.args.changes.now =
    ap (λ turned. turned.iter.rest.now) c.into_iter-change-iterator.ensures.into_iter_gives ∙ ap (λ iter. iter.rest.now) c.rev-change-items.ensures.source
    ∙ c.iter.ensures.rest in (
      c.in_ok-fates.ensures.size,
      [],
      sym rest ∙ sym (append-nil c.into_iter-change-iterator.result.iter.rest.now),
      foretells_none c.args.store.now c.in_ok-fates.fates c.args.count c.in_ok-fates.ensures,
    )

pub take-requires : goal.take-requires
take-requires c =
    let changes = c.args.changes.now in
    let one : RowChange = c.in-Some.change.now in
    let left = c.next.new.self.iter.rest.now in
    let inside : Contains changes one = subst (λ (list : List RowChange). Contains list one)
    (sym (c.loop-change.invariant.2 ∙ ap (λ (list : List RowChange). list ++ c.loop-change.invariant.1) c.in-Some.ensures.steps))
    (Contains-append_left (left ++ one ∷ []) c.loop-change.invariant.1 one (push_last left one)) in
    let P : ℕ → Type 0 = λ count. IsOfTable count one in
    subst P (sym c.loop-change.invariant.0) (All-contains (IsOfTable c.args.count) changes one c.requires inside)

pub loop-change-preserved : goal.loop-change-preserved
loop-change-preserved c =
    let one : RowChange = c.in-Some.change.now in
    let left = c.next.new.self.iter.rest.now in
    let later : List RowChange = c.loop-change.invariant.1 in (
      c.in_ok-take.ensures.size ∙ c.loop-change.invariant.0,
      one ∷ later,
      c.loop-change.invariant.2 ∙ ap (λ (list : List RowChange). list ++ later) c.in-Some.ensures.steps ∙ append_assoc left (one ∷ []) later,
      c.in_ok-take.ensures.told later c.loop-change.invariant.3,
    )

pub returns-clause-size : goal.returns-clause-size
returns-clause-size c = c.loop-change.invariant.0

pub returns-clause-told : goal.returns-clause-told
returns-clause-told c =
    let rest = c.loop-change.change-iterator.iter.rest.now in
    subst (λ (list : List RowChange). Foretells c.args.store.now list c.loop-change.fates)
    (sym (c.loop-change.invariant.2 ∙ ap (λ (list : List RowChange). list ++ c.loop-change.invariant.1)
    (nil_from_length rest c.in-None.ensures.steps.0))) c.loop-change.invariant.3

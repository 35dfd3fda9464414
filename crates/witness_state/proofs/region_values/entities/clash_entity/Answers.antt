use Rattle.std.proofs.Common.{◌≡◌, List, Option, false, take, refl, sym, ap, subst, ◌∙◌}
use Rattle.std.specs.List.{list_any}
use Rattle.std.specs.Result.{IfOk}
use Rattle.std.proofs.lemmas.List.{take_all}
use Rattle.std.proofs.lemmas.Option.{slice_get_read}
use Rattle.emc_base.specs.Lists.{At}
use Rattle.round_trip.specs.Words.{Entity}
use Rattle.regions.specs.Patterns.{Valuation}
use Rattle.region_states.specs.region_basis.BasisOf.{basis_of}
use Rattle.region_states.specs.Entities.{focus_entity}
use Rattle.conflict_laws.specs.clash.ClashValues.{differ_under}
use Rattle.witness_state.specs.declared.region_values.changes.Change.{Change}
use Rattle.witness_state.specs.region_values.Changes.{by_change}
use Rattle.witness_state.proofs.region_values.Passed.{none_further}
use Rattle.witness_state.proofs.region_values.Tried.{first_differs, none_differs}
use Rattle.witness_state.proofs.region_values.entities.clash_entity.Goals as goal

pub loop-change-init : goal.loop-change-init
loop-change-init c = refl

pub loop-change-preserved : goal.loop-change-preserved
loop-change-preserved c =
    let basis = basis_of c.args.parts.now in
    let region = c.args.region.now in
    let one = c.args.one.now in
    let two = c.args.two.now in
    let change : Option Change = c.change-item.result in
    let same = ap (λ one_change. differ_under one two (by_change basis region one_change)) (sym c.as_ref.ensures.value) ∙ sym c.in_ok-differ.ensures ∙ c.if-branch.false in
    none_further (λ tried. differ_under one two (by_change basis region tried)) c.as_slice-change-items.result.now c.loop-change.change-index change
    (slice_get_read _ _ c.loop-change.change-index _ refl c.loop-change-test.true c.change-item.is) c.loop-change.invariant same

pub returns-then-branch : goal.returns-then-branch
returns-then-branch c =
    let basis = basis_of c.args.parts.now in
    let region = c.args.region.now in
    let one = c.args.one.now in
    let two = c.args.two.now in
    let i = c.loop-change.change-index in
    let change : Option Change = c.change-item.result in
    let same = c.as_slice-change-items.ensures.value in
    let here : At c.in_ok-tried.tried.items i change =
    subst (λ (list : List (Option Change)). At list i change) same (slice_get_read _ _ i _ refl c.loop-change-test.true c.change-item.is) in
    let none : list_any (λ change. differ_under one two (by_change basis region change)) (take i c.in_ok-tried.tried.items) ≡ false =
    subst (λ (list : List (Option Change)). list_any (λ change. differ_under one two (by_change basis region change)) (take i list) ≡ false) same c.loop-change.invariant in
    let differs = ap (λ one_change. differ_under one two (by_change basis region one_change)) (sym c.as_ref.ensures.value) ∙ sym c.in_ok-differ.ensures ∙ c.if-branch.true in
    let first = first_differs basis region one two c.in_ok-tried.tried.items c.in_ok-tried.ensures i change here none differs in
    let P : Valuation → Type 0 = λ values. IfOk c.changed_entity.result (λ (entity : Entity). entity ≡ focus_entity basis region values) in
    subst P (ap (by_change basis region) c.as_ref-then-branch.ensures.value ∙ first) c.changed_entity.ensures

pub returns : goal.returns
returns c =
    let basis = basis_of c.args.parts.now in
    let region = c.args.region.now in
    let one = c.args.one.now in
    let two = c.args.two.now in
    let passed : take c.loop-change.change-index c.as_slice-change-items.result.now ≡ c.in_ok-tried.tried.items =
    take_all c.loop-change.change-index c.as_slice-change-items.result.now c.loop-change-test.false ∙ c.as_slice-change-items.ensures.value in
    let none : list_any (λ change. differ_under one two (by_change basis region change)) c.in_ok-tried.tried.items ≡ false =
    subst (λ (list : List (Option Change)). list_any (λ change. differ_under one two (by_change basis region change)) list ≡ false) passed c.loop-change.invariant in
    let P : Valuation → Type 0 = λ values. IfOk c.usual_entity.result (λ (entity : Entity). entity ≡ focus_entity basis region values) in
    subst P (none_differs basis region one two c.in_ok-tried.tried.items c.in_ok-tried.ensures none) c.usual_entity.ensures

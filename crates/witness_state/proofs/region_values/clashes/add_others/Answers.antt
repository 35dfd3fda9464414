use Rattle.std.proofs.Common.{◌≡◌, ◌++◌, map}
use Rattle.std.proofs.lemmas.Result.{IfOk-weaker}
use Rattle.conflict_laws.specs.clash.ClashValues.{with_others}
use Rattle.regions.specs.Settled.{possible}
use Rattle.region_states.specs.region_basis.BasisOf.{basis_of}
use Rattle.witness_state.specs.region_values.Changes.{both_changes, by_change}
use Rattle.witness_state.proofs.region_values.Others.{others_behind}
use Rattle.witness_state.proofs.region_values.clashes.add_others.Goals as goal

pub returns-in-Some : goal.returns-in-Some
returns-in-Some c =
    let basis = basis_of c.args.parts.now in
    let region = c.args.region.now in
    let before = c.args.tried.now.items in
    let after = c.add_both.new.tried.items in
    IfOk-weaker c.add_both.result (λ _. after ≡ before ++ both_changes basis c.in-Prop.property c.in-Some.declared.now)
    (λ _. map (by_change basis region) after ≡ map (by_change basis region) before
    ++ with_others basis region c.args.symbol.now (possible c.args.parts.now.model.now region.atoms c.args.symbol.now))
    (λ _ added. others_behind basis region c.in-Prop.property c.in-Some.declared.now c.in-Some.ensures.item c.args.symbol.now c.in-Prop.is c.as_slice.result.now c.as_slice.ensures.items
    (c.if-not-has_several.ensures basis.schema.model) before after added)
    c.add_both.ensures

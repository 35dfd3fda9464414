use Rattle.std.proofs.Common.{◌≡◌, subst}
use Rattle.std.specs.Result.{IfOk}
use Rattle.region_states.specs.region_basis.BasisOf.{basis_of}
use Rattle.region_states.specs.Entities.{focus_entity}
use Rattle.witness_state.proofs.region_values.Lost.{is_one}
use Rattle.witness_state.proofs.region_values.entities.one_entity.Goals as goal

pub returns : goal.returns
returns c =
    let basis = basis_of c.args.parts.now in
    let region = c.args.region.now in
    subst (λ values. IfOk c.entity_with.result (λ entity. entity ≡ focus_entity basis region values))
    (is_one basis region c.args.property c.in-Some.declared.now c.in-Some.ensures.item c.in_ok-value.value c.in_ok-value.ensures) c.entity_with.ensures

use Rattle.std.proofs.Common.{ap, map, ◌∙◌}
use Rattle.std.proofs.lemmas.List.{take_all}
use Rattle.round_trip.specs.Words.{PropId}
use Rattle.region_states.specs.defaults.Defaults.{changed, default_valuation}
use Rattle.region_states.specs.region_basis.BasisOf.{basis_of}
use Rattle.conflict_laws.specs.rival.RivalValues.{rival_value}
use Rattle.witness_state.proofs.region_values.Made.{one_more_made}
use Rattle.witness_state.proofs.region_values.rivals.rival_entity.Goals as goal

pub loop-property-preserved : goal.loop-property-preserved
loop-property-preserved c =
    let basis = basis_of c.args.parts.now in
    let rival = c.args.rival.now in
    let none : PropId = record { index = 0 } in
    one_more_made (changed (default_valuation basis 0 rival.region.now) (rival_value basis rival.first.now rival.second.now rival.region.now rival.other.now)).prop
    c.props_of-property-items.result.now c.loop-property.property-index none c.loop-property-test.true c.loop-property.values c.push.new.self
    c.in_ok-value_of.field-0 c.loop-property.invariant c.in_ok-push.ensures.ok c.in_ok-value_of.ensures

pub returns : goal.returns
returns c =
    let basis = basis_of c.args.parts.now in
    let rival = c.args.rival.now in
    let f = (changed (default_valuation basis 0 rival.region.now) (rival_value basis rival.first.now rival.second.now rival.region.now rival.other.now)).prop in
    let passed = take_all c.loop-property.property-index c.props_of-property-items.result.now c.loop-property-test.false ∙ c.props_of-property-items.ensures.props in
    λ k. record { ty = rival.region.now.ty; values = (c.loop-property.invariant ∙ ap (map f) passed) k }

use Rattle.std.proofs.Common.{ap, map, ◌∙◌}
use Rattle.std.specs.Option.{option_copied}
use Rattle.std.proofs.lemmas.List.{take_all}
use Rattle.round_trip.specs.Words.{PropId}
use Rattle.region_states.specs.region_basis.BasisOf.{basis_of}
use Rattle.witness_state.specs.region_values.Changes.{by_change}
use Rattle.witness_state.proofs.region_values.Made.{one_more_made}
use Rattle.witness_state.proofs.region_values.changes.changed_entity.Goals as goal

pub loop-property-preserved : goal.loop-property-preserved
loop-property-preserved c =
    let none : PropId = record { index = 0 } in
    one_more_made (by_change (basis_of c.args.parts.now) c.args.region.now (option_copied c.args.change)).prop
    c.props_of-property-items.result.now c.loop-property.property-index none c.loop-property-test.true c.loop-property.values c.push.new.self
    c.in_ok-changed_value.field-0 c.loop-property.invariant c.in_ok-push.ensures.ok c.in_ok-changed_value.ensures

pub returns : goal.returns
returns c =
    let f = (by_change (basis_of c.args.parts.now) c.args.region.now (option_copied c.args.change)).prop in
    let passed = take_all c.loop-property.property-index c.props_of-property-items.result.now c.loop-property-test.false ∙ c.props_of-property-items.ensures.props in
    λ k. record { ty = c.args.region.now.ty; values = (c.loop-property.invariant ∙ ap (map f) passed) k }

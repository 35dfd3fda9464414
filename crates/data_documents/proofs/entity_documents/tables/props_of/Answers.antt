use Rattle.std.proofs.Common.{refl, map, ap, ◌∙◌}
use Rattle.std.proofs.lemmas.List.{take_all}
use Rattle.std.proofs.lemmas.Option.{slice_get_read}
use Rattle.groupings.specs.name_places.GivenNames.{first_place}
use Rattle.groupings.specs.name_places.PlacesIn.{place_in}
use Rattle.edm_types.specs.declared.model.EntityType.{EntityType}
use Rattle.data_documents.specs.entity_documents.Tables.{name_or}
use Rattle.schema_names.proofs.Listed.{made_more}
use Rattle.data_documents.proofs.entity_documents.tables.props_of.Goals as goal

pub loop-ty-preserved : goal.loop-ty-preserved
loop-ty-preserved c =
    let model = c.args.model.now in
    let types = c.as_slice-ty-items.result.now in
    let here = slice_get_read types _ c.loop-ty.ty-index _ refl c.loop-ty-test.true c.ty-item.is in
    let known = c.in_ok-props_by_name.ensures ∙ ap (first_place (name_or model c.args.unnamed.now)) c.as_slice.ensures.items in
    ap (map place_in) c.in_ok-push.ensures.ok
    ∙ made_more place_in (λ (type : EntityType). first_place (name_or model c.args.unnamed.now) type.props) c.loop-ty.props types c.loop-ty.ty-index c.in_ok-props_by_name.field-0 c.ty-item.result here c.loop-ty.invariant known

pub returns : goal.returns
returns c =
    c.loop-ty.invariant
    ∙ ap (map (λ (type : EntityType). first_place (name_or c.args.model.now c.args.unnamed.now) type.props))
    (take_all c.loop-ty.ty-index c.as_slice-ty-items.result.now c.loop-ty-test.false ∙ c.as_slice-ty-items.ensures.items)

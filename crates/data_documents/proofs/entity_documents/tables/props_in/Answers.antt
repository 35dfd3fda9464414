use Rattle.std.proofs.Common.{map, ◌∙◌}
use Rattle.std.proofs.lemmas.Result.{IfOk-weaker}
use Rattle.groupings.specs.name_places.GivenNames.{first_place}
use Rattle.edm_types.specs.declared.model.EntityType.{EntityType}
use Rattle.data_documents.specs.entity_documents.Tables.{name_or}
use Rattle.data_documents.proofs.entity_documents.tables.props_in.Goals as goal

pub returns : goal.returns
returns c =
    let model = c.args.model.now in
    IfOk-weaker c.props_of.result _ _
    (λ props is. is ∙ (λ k. map (λ (type : EntityType). first_place (name_or model (c.in_ok-unnamed.ensures k)) type.props) model.types))
    c.props_of.ensures

use Rattle.std.proofs.Common.{◌≡◌, List, rules, ap, map, ◌∙◌}
use Rattle.groupings.specs.declared.name_places.places.Places.{Places}
use Rattle.groupings.specs.name_places.GivenNames.{first_place}
use Rattle.groupings.specs.name_places.PlacesIn.{place_in}
use Rattle.edm_types.specs.declared.model.EntityType.{EntityType}
use Rattle.entity_state.specs.StateTree.{name_of}
use Rattle.emc_base.proofs.facts.Beside.{first_of, second_of}
use Rattle.data_documents.proofs.entity_documents.tables.type_places.Goals as goal

pub returns-clause-types : goal.returns-clause-types
returns-clause-types c =
    let Tells : Places → Type 0 = λ places. place_in places ≡ first_place (λ type. type.name) c.args.model.now.types in
    first_of c.in_ok-types.types c.props_in.result c.beside.result Tells c.beside.ensures
    (c.in_ok-types.ensures (λ type. type.name) (λ type name lent. search rules) ∙ ap (first_place (λ type. type.name)) c.as_slice.ensures.items)

pub returns-clause-props : goal.returns-clause-props
returns-clause-props c =
    let model = c.args.model.now in
    let Tell : List Places → Type 0 = λ props. map place_in props ≡ map (λ (type : EntityType). first_place (name_of model) type.props) model.types in
    second_of c.in_ok-types.types c.props_in.result c.beside.result Tell c.beside.ensures c.props_in.ensures

use Rattle.std.proofs.Common.{◌≡◌, List, map, ap, ◌∙◌}
use Rattle.std.proofs.lemmas.Result.{IfOk-at_ok}
use Rattle.groupings.specs.declared.name_places.places.Places.{Places}
use Rattle.groupings.specs.name_places.GivenNames.{first_place}
use Rattle.groupings.specs.name_places.PlacesIn.{place_in}
use Rattle.edm_types.specs.declared.model.EntityType.{EntityType}
use Rattle.entity_state.specs.StateTree.{name_of}
use Rattle.data_documents.proofs.entity_documents.tables.NameTables.of.Goals as goal

pub returns : goal.returns
returns c =
    let model = c.args.model.now in
    let OfTypes : Places × List Places → Type 0 = λ two. place_in two.0 ≡ first_place (λ type. type.name) model.types in
    let OfProps : Places × List Places → Type 0 = λ two. map place_in two.1 ≡ map (λ (type : EntityType). first_place (name_of model) type.props) model.types in
    record {
      types = IfOk-at_ok OfTypes c.in_ok-sets-2.ensures.1 c.type_places.ensures.types;
      sets = ap (λ (two : Places × Places). place_in two.0) c.in_ok-sets-2.ensures.0 ∙ c.in_ok-sets.ensures.sets;
      association_sets = ap (λ (two : Places × Places). place_in two.1) c.in_ok-sets-2.ensures.0 ∙ c.in_ok-sets.ensures.association_sets;
      props = IfOk-at_ok OfProps c.in_ok-sets-2.ensures.1 c.type_places.ensures.props;
    }

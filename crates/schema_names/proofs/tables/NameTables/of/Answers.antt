use Rattle.std.proofs.Common.{◌≡◌, List, Vec, Global, sym, ap, subst, ◌∙◌}
use Rattle.std.proofs.lemmas.Result.{IfOk-at_ok}
use Rattle.groupings.specs.declared.name_places.places.Places.{Places}
use Rattle.groupings.specs.name_places.GivenNames.{first_place}
use Rattle.groupings.specs.name_places.PlacesIn.{place_in}
use Rattle.schema_names.specs.Columns.{AreColumnsOf}
use Rattle.schema_names.specs.OwnProps.{AreOwnProps}
use Rattle.schema_names.specs.declared.columns.TableColumns.{TableColumns}
use Rattle.schema_names.specs.declared.own_props.OwnProps.{OwnProps}
use Rattle.schema_names.proofs.tables.NameTables.of.Goals as goal

pub returns : goal.returns
returns c =
    let assocs = c.args.model.now.assocs in
    let tables = c.args.store.now.tables in
    let Two : Type 0 = Places × Places in
    let InStore : Type 0 = Places × List TableColumns in
    let names : (Two × Two) × InStore = c.in_ok-names-2.names in
    let same : names ≡ c.in_ok-names.names = c.in_ok-names-2.ensures.0 in
    let in_model : names.0 ≡ c.in_ok-in_model.in_model = ap (λ (all : (Two × Two) × InStore). all.0) same ∙ c.in_ok-names.ensures.0 in
    let entities : names.0.0 ≡ c.in_ok-entity_places.field-0 = ap (λ (four : Two × Two). four.0) in_model ∙ c.in_ok-in_model.ensures.0 in
    let OfSets : Two → Type 0 = λ two. place_in two.0 ≡ first_place (λ assoc. assoc.set_name) assocs in
    let OfAssociations : Two → Type 0 = λ two. place_in two.1 ≡ first_place (λ assoc. assoc.assoc_name) assocs in
    let OfTables : InStore → Type 0 = λ two. place_in two.0 ≡ first_place (λ table. table.name) tables in
    let OfColumns : InStore → Type 0 = λ two. AreColumnsOf tables two.1 in
    let Own : Vec OwnProps Global → Type 0 = λ own. AreOwnProps c.args.model.now own.items in
    record {
      types = ap (λ (two : Two). place_in two.0) entities ∙ c.in_ok-entity_places.ensures.types;
      sets = ap (λ (two : Two). place_in two.1) entities ∙ c.in_ok-entity_places.ensures.sets;
      association_sets = ap (λ (four : Two × Two). place_in four.1.0) in_model ∙ IfOk-at_ok OfSets c.in_ok-in_model.ensures.1 c.association_places.ensures.sets;
      associations = ap (λ (four : Two × Two). place_in four.1.1) in_model ∙ IfOk-at_ok OfAssociations c.in_ok-in_model.ensures.1 c.association_places.ensures.associations;
      tables_of = ap (λ (all : (Two × Two) × InStore). place_in all.1.0) same ∙ IfOk-at_ok OfTables c.in_ok-names.ensures.1 c.table_places.ensures.tables;
      columns = subst OfColumns (sym (ap (λ (all : (Two × Two) × InStore). all.1) same)) (IfOk-at_ok OfColumns c.in_ok-names.ensures.1 c.table_places.ensures.columns);
      own_props = IfOk-at_ok Own c.in_ok-names-2.ensures.1 c.own_props_of.ensures;
    }

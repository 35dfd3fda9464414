-- The tables of names are those of a model and a store.
use Rattle.std.specs.Prelude.{◌≡◌}
use Rattle.groupings.specs.name_places.GivenNames.{first_place}
use Rattle.groupings.specs.name_places.PlacesIn.{place_in}
use Rattle.round_trip.specs.Words.{EntityModel, StoreModel}
use Rattle.schema_names.specs.declared.tables.NameTables.{NameTables}
use Rattle.schema_names.specs.Columns.{AreColumnsOf}
use Rattle.schema_names.specs.OwnProps.{AreOwnProps}

-- each tells where the names of its list are given first
pub record AreTablesOf (model : EntityModel) (store : StoreModel) (tables : NameTables) : Type 0 where
  pub types : place_in tables.types ≡ first_place (λ type. type.name) model.types
  pub sets : place_in tables.sets ≡ first_place (λ set. set.name) model.sets
  pub association_sets : place_in tables.association_sets ≡ first_place (λ assoc. assoc.set_name) model.assocs
  pub associations : place_in tables.associations ≡ first_place (λ assoc. assoc.assoc_name) model.assocs
  pub tables_of : place_in tables.tables ≡ first_place (λ table. table.name) store.tables
  pub columns : AreColumnsOf store.tables tables.columns
  pub own_props : AreOwnProps model tables.own_props.items

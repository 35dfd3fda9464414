-- The tables of names are those of a model.
-- Source: CSDL version 3, EntityType, Property, EntitySet and AssociationSet.
use Rattle.std.specs.Prelude.{◌≡◌, ℕ, List, map, slice_get}
use Rattle.std.specs.Option.{option_map_or}
use Rattle.groupings.specs.name_places.GivenNames.{first_place}
use Rattle.groupings.specs.name_places.PlacesIn.{place_in}
use Rattle.round_trip.specs.Words.{EntityModel, PropId}
use Rattle.entity_state.specs.StateTree.{name_of}
use Rattle.data_documents.specs.declared.entity_documents.tables.NameTables.{NameTables}

-- the name of a property, and another where the model doesn't declare it
abbrev pub name_or : EntityModel → List ℕ → PropId → List ℕ
name_or model unnamed prop = option_map_or (λ declared. declared.name) (slice_get model.props prop.index) unnamed

-- each tells where the names of its list are given first
pub record AreTablesOf (model : EntityModel) (tables : NameTables) : Type 0 where
  pub types : place_in tables.types ≡ first_place (λ type. type.name) model.types
  pub sets : place_in tables.sets ≡ first_place (λ set. set.name) model.sets
  pub association_sets : place_in tables.association_sets ≡ first_place (λ assoc. assoc.set_name) model.assocs
  pub props : map place_in tables.props ≡ map (λ type. first_place (name_of model) type.props) model.types

-- Names that stand in one object of a printed document.
use Rattle.std.proofs.Common.{◌≡◌, ◌≢◌, ℕ, List, [], map, get_or, All, AllPairs, slice_get, Option, None, Some, refl, ap, sym, ◌∙◌, arith}
use Rattle.std.specs.Prelude.{codes}
use Rattle.std.specs.Option.{option_map_or}
use Rattle.std.proofs.lemmas.List.Elements.{All-contains, All-map, All-nil}
use Rattle.std.proofs.lemmas.List.Kept.{AllPairs-cons}
use Rattle.emc_base.specs.Lists.{AreApart}
use Rattle.emc_base.proofs.Lists.{item_at}
use Rattle.emc_base.proofs.Mapped.{contains_at}
use Rattle.emc_base.proofs.Numbered.{all_pairs_map}
use Rattle.round_trip.specs.Words.{EntityModel, EntityType, Prop, PropId, TypeId, Assoc, StoreModel, Table, At, props_of}
use Rattle.round_trip.specs.soundness.models.ModelIds.{IsPropId}
use Rattle.round_trip.specs.soundness.models.Models.{IsSoundModel}
use Rattle.round_trip.specs.soundness.Stores.{IsSoundStore}
use Rattle.schema_laws.specs.sound_types.PropNames.{HaveOtherNames}
use Rattle.schema_laws.proofs.sound_types.Once.{names_once}
use Rattle.entity_state.specs.StateTree.{is_independent, name_of}
use Rattle.entity_state.specs.Tells.{HasApartNames}
use Rattle.table_files.specs.Tells as tables
use Rattle.data_documents.proofs.sound_names.Apart.{pairs_with_some}

pub store_names : (store : StoreModel) → IsSoundStore store → tables.HasApartNames store
store_names store sound = record {
  tables = sound.names.tables;
  columns = λ t table at. All-contains (λ (each : Table). AreApart (map (λ column. column.name) each.cols)) store.tables table sound.names.columns
      (contains_at store.tables t.index table at);
}

module _ (model : EntityModel) (sound : IsSoundModel model) where
  -- the properties of a type stand in the model
  in_range : (t : TypeId) → All (IsPropId model) (props_of model t)
  in_range t = by (slice_get model.types t.index) refl
    where
      by : (found : Option EntityType) → slice_get model.types t.index ≡ found → All (IsPropId model) (option_map_or (λ (type : EntityType). type.props) found [])
      by None here = All-nil (IsPropId model)
      by (Some type) here = All-contains (λ (each : EntityType). All (IsPropId model) each.props) model.types type sound.ids.props (contains_at model.types t.index type here)

  -- the name of a property that is declared
  name_is : (p : PropId) → IsPropId model p → (declared : Prop) × At model.props p.index declared × (name_of model p ≡ declared.name)
  name_is p within =
      let found = item_at model.props p.index within in
      (found.0, found.1, ap (λ (o : Option Prop). option_map_or (λ (declared : Prop). declared.name) o []) found.1)

  -- two properties in range of different names
  names_differ : (p q : PropId) → IsPropId model p → IsPropId model q → HaveOtherNames model p q → name_of model p ≢ name_of model q
  names_differ p q in_p in_q other same =
      let one = name_is p in_p in
      let two = name_is q in_q in
      other one.0 two.0 one.1 two.1 (sym one.2 ∙ same ∙ two.2)

  -- names of these properties
  apart_names : (props : List PropId) → All (IsPropId model) props → AllPairs (HaveOtherNames model) props → AllPairs ◌≢◌ (map (name_of model) props)
  apart_names props inside others = all_pairs_map ◌≢◌ (name_of model) props
      (λ i j d below within. names_differ (get_or props i d) (get_or props j d) (inside i d (omega (arith, below, within))) (inside j d within) (others i j d below within))

  module _ (plain : All (λ (prop : Prop). prop.name ≢ codes "$type") model.props) where
    -- the name of a property isn't that of the type's member
    is_plain : (p : PropId) → IsPropId model p → codes "$type" ≢ name_of model p
    is_plain p within same =
        let found = name_is p within in
        All-contains (λ (prop : Prop). prop.name ≢ codes "$type") model.props found.0 plain (contains_at model.props p.index found.0 found.1) (sym (same ∙ found.2))

    pub model_names : HasApartNames model
    model_names = record {
      members = pairs_with_some ◌≢◌ (λ (assoc : Assoc). assoc.set_name) is_independent model.assocs (map (λ set. set.name) model.sets) sound.names.sets;
      props = λ t. AllPairs-cons ◌≢◌ (codes "$type") (map (name_of model) (props_of model t))
          (All-map (λ (name : List ℕ). codes "$type" ≢ name) (name_of model) (props_of model t)
          (λ k d within. is_plain (get_or (props_of model t) k d) (in_range t k d within)))
          (apart_names (props_of model t) (in_range t) (names_once model sound t));
      roles = λ id assoc at. All-contains (λ (each : Assoc). each.first.role ≢ each.second.role) model.assocs assoc sound.names.roles (contains_at model.assocs id.index assoc at);
    }

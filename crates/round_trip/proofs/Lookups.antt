-- What stands at an id of a schema: kinds and keys, and keys that are inherited.
use Rattle.std.proofs.Common.{◌≡◌, [], Contains, MatchOption, Option, Some, option_map, refl, sym, ap, subst, ◌∙◌}
use Rattle.std.specs.Option.{option_map_or}
use Rattle.std.proofs.lemmas.List.Elements.{All-contains}
use Rattle.emc_base.proofs.Lists.{item_at}
use Rattle.edm_types.specs.IsA as is
use Rattle.round_trip.specs.Words.{Assoc, ColId, Column, End, EntityModel, EntitySet, EntityType, IsA, LinkFragment, Prop, PropId, Schema, StoreModel, Table, TableId, TypeId, At, key_columns, key_props}
use Rattle.round_trip.specs.soundness.Lookups.{column_kind, columns_of, prop_kind, set_key}
use Rattle.round_trip.specs.soundness.mappings.Mappings.{HasLinkFragmentIds, IsSoundSchema}
use Rattle.round_trip.specs.soundness.models.Constraints.{IsSoundEnd}
use Rattle.round_trip.specs.soundness.models.Inheritance.{IsRootKey}
use Rattle.round_trip.specs.soundness.models.Models.{IsSoundModel}

-- the kind of a property that stands in the model
pub prop_kind_at : (model : EntityModel) (p : PropId) (declared : Prop) → At model.props p.index declared → prop_kind model p ≡ Some declared.kind
prop_kind_at model p declared here = ap (option_map (λ (one : Prop). one.kind)) here

-- the kind of a column that stands in its table
pub column_kind_at : (store : StoreModel) (t : TableId) (c : ColId) (column : Column) → At (columns_of store t) c.index column → column_kind store t c ≡ Some column.kind
column_kind_at store t c column here = ap (option_map (λ (one : Column). one.kind)) here

-- the primary key of a table that stands in the store
pub key_columns_at : (store : StoreModel) (t : TableId) (table : Table) → At store.tables t.index table → key_columns store t ≡ table.key
key_columns_at store t table here = ap (λ found. option_map_or (λ (one : Table). one.key) found []) here

module _ (model : EntityModel) (sound : IsSoundModel model) where
  -- a type has the key of each type above it
  pub inherited_key : (t u : TypeId) → IsA model t u → key_props model t ≡ key_props model u
  inherited_key t u (is.same _) = refl
  inherited_key t u (is.base _ _ has) =
      let P : Option TypeId → Type 0 = λ base. MatchOption base (IsRootKey model t has.0.key) (λ base. has.0.key ≡ key_props model base) in
      ap (λ (found : Option EntityType). option_map_or (λ type. type.key) found []) has.1 ∙ subst P has.2 (sound.types t has.0 has.1).key
  inherited_key t u (is.chain _ between _ first second) = inherited_key t between first ∙ inherited_key between u second

  -- the key of the type at an end is that of the set there
  pub end_set_key : (end : End) → IsSoundEnd model end → key_props model end.ty ≡ set_key model end.set
  end_set_key end good =
      inherited_key end.ty good.under.0.element good.under.2
      ∙ sym (ap (λ (found : Option EntitySet). option_map_or (λ entry. key_props model entry.element) found []) good.under.1)

module _ (schema : Schema) (sound : IsSoundSchema schema) where
  -- a fragment of links is of an association
  pub assoc_of : (fragment : LinkFragment) → Contains schema.mapping.links fragment → (assoc : Assoc) × At schema.model.assocs fragment.assoc.index assoc
  assoc_of fragment mapped = item_at schema.model.assocs fragment.assoc.index
      (All-contains (HasLinkFragmentIds schema) schema.mapping.links fragment sound.mapping.link_ids mapped).assoc

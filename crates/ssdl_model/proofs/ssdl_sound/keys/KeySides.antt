-- The two sides of a foreign key: the type and the table of each, its columns, and their kinds. V7.
use Rattle.std.proofs.Common.{◌≡◌, ℕ, ◌<◌, List, [], length, map, slice_get, All, Contains, Option, Some, option_map, sym, ap, subst, ◌∙◌}
use Rattle.std.specs.List.{filter_map}
use Rattle.std.specs.Option.{option_and_then, option_map_or, unwrap_or}
use Rattle.std.proofs.lemmas.List.{length-map}
use Rattle.std.proofs.lemmas.Option.{slice_get_within}
use Rattle.std.proofs.lemmas.Simd.{map-map}
use Rattle.emc_base.specs.Lists.{At}
use Rattle.edm_types.specs.declared.store.Column.{Column}
use Rattle.edm_types.specs.declared.store.Table.{Table}
use Rattle.round_trip.specs.Words.{ColId, key_columns}
use Rattle.round_trip.specs.soundness.Kinds.{without_bound}
use Rattle.round_trip.specs.soundness.Lookups.{column_kind as kind_at, columns_of}
use Rattle.round_trip.specs.soundness.Stores.{IsColId, IsTableId}
use Rattle.csdl_names.specs.declared.csdl_lists.raw.RawAssociation.{RawAssociation}
use Rattle.csdl_names.specs.declared.csdl_lists.raw.RawModel.{RawModel}
use Rattle.csdl_names.specs.declared.csdl_lists.raw.RawProp.{RawProp}
use Rattle.csdl_names.specs.declared.csdl_lists.raw.RawRole.{RawRole}
use Rattle.csdl_names.specs.declared.csdl_lists.raw.RawSet.{RawSet}
use Rattle.csdl_names.specs.csdl_lists.References.{names_in}
use Rattle.csdl_names.specs.Unresolved.{type_of_role}
use Rattle.csdl_types.specs.declared.simple.PropType.{PropType}
use Rattle.csdl_associations.specs.csdl_constraints.Sides.{type_of_prop, types_of_side}
use Rattle.emc_base.proofs.FoundItems.{map_found}
use Rattle.emc_base.proofs.Joined.{at_map}
use Rattle.csdl_meaning.proofs.types.PropKinds.{kind_named}
use Rattle.ssdl_model.specs.ssdl_lists.Columns.{column_type}
use Rattle.ssdl_model.specs.ssdl_lists.RawStore.{IsUnbased}
use Rattle.ssdl_model.specs.ssdl_lists.Tables.{table_of}
use Rattle.ssdl_model.specs.ssdl_making.StoreMeaning.{col_named, cols_named, column_of, store_meaning, table_at, table_meant, table_numbered, type_of_side}
use Rattle.ssdl_model.proofs.ssdl_sound.tables.ColumnIds.{IsColumn, column_found, ids_inside, prop_is}
use Rattle.ssdl_model.proofs.ssdl_sound.tables.ColumnKinds.{kind_by_type}
use Rattle.ssdl_model.proofs.ssdl_sound.tables.MeantTables.{IsTyped, table_is}

-- a side of a constraint: the first table of the type at its role, and that each of its names has an id
pub record IsSide (raw : RawModel) (association : RawAssociation) (side : RawRole) : Type 0 where
  pub place : ℕ
  pub set : RawSet
  pub is_set : At raw.container.sets place set
  pub typed : IsTyped raw set
  pub is_table : table_of (names_in raw) raw typed.place ≡ Some place
  pub of_role : type_of_role (names_in raw) raw association side.role ≡ Some typed.place
  pub ids : (name : List ℕ) → Contains side.props name → (col : ColId) × (col_named raw typed.place name ≡ Some col)

module _ {raw : RawModel} {association : RawAssociation} {side : RawRole} (it : IsSide raw association side) where
  -- the ids of its columns
  abbrev pub side_cols : List ColId
  side_cols = filter_map (col_named raw it.typed.place) side.props

  -- its table and its columns are these
  pub table_at_is : table_at raw (type_of_side raw association side) ≡ table_numbered it.place
  table_at_is =
      ap (λ (type : Option ℕ). table_numbered (unwrap_or (option_and_then (table_of (names_in raw) raw) type) 0)) it.of_role
      ∙ ap (λ (table : Option ℕ). table_numbered (unwrap_or table 0)) it.is_table

  pub cols_are : cols_named raw (type_of_side raw association side) side.props ≡ side_cols
  cols_are = ap (λ (type : Option ℕ). option_map_or (λ i. filter_map (col_named raw i) side.props) type []) it.of_role

  -- the table stands there
  table_there : At (store_meaning raw).tables it.place (table_meant raw it.set)
  table_there = at_map (table_meant raw) raw.container.sets it.place it.set it.is_set

  pub table_inside : IsTableId (store_meaning raw) (table_numbered it.place)
  table_inside = slice_get_within (store_meaning raw).tables it.place (table_meant raw it.set) table_there

  -- its columns and its key are those of its type
  columns_are : columns_of (store_meaning raw) (table_numbered it.place) ≡ map column_of it.typed.type.props
  columns_are = ap (λ (found : Option Table). option_map_or (λ entry. entry.cols) found []) (table_there ∙ ap Some (table_is raw it.set it.typed))

  pub key_is : key_columns (store_meaning raw) (table_numbered it.place) ≡ filter_map (col_named raw it.typed.place) it.typed.key
  key_is = ap (λ (found : Option Table). option_map_or (λ entry. entry.key) found []) (table_there ∙ ap Some (table_is raw it.set it.typed))

  -- ids are in range
  pub cols_inside : All (IsColId (store_meaning raw) (table_numbered it.place)) side_cols
  cols_inside =
      let P : ℕ → Type 0 = λ count. All (λ (col : ColId). col.index < count) side_cols in
      subst P (sym (ap length columns_are ∙ length-map it.typed.type.props column_of)) (ids_inside raw it.typed.place it.typed.type it.typed.is_type side.props)

  module _ (unbased : IsUnbased raw) where
    -- the kind of a column, its bound aside
    side_kind : (name : List ℕ) (col : ColId) → IsColumn it.typed.type name col → col_named raw it.typed.place name ≡ Some col
        → option_map without_bound (kind_at (store_meaning raw) (table_numbered it.place) col) ≡ Some (kind_named raw (type_of_prop (names_in raw) raw column_type it.typed.place name))
    side_kind name col found is =
        ap (λ (columns : List Column). option_map without_bound (option_map (λ column. column.kind) (slice_get columns col.index))) columns_are
        ∙ ap (λ (column : Option Column). option_map without_bound (option_map (λ column. column.kind) column)) (at_map column_of it.typed.type.props col.index found.column found.is_column)
        ∙ ap Some (kind_by_type raw found.column)
        ∙ ap (λ (prop : Option RawProp). Some (kind_named raw (option_and_then (λ prop. column_type prop.kind) prop))) (sym (prop_is raw it.typed.place it.typed.type it.typed.is_type unbased name col found))

    -- V24: the kinds of the columns are what their Types name
    pub side_kinds : map (λ col. option_map without_bound (kind_at (store_meaning raw) (table_numbered it.place) col)) side_cols
        ≡ map (λ type. Some (kind_named raw type)) (types_of_side (names_in raw) raw column_type association side)
    side_kinds =
        map_found (col_named raw it.typed.place) (λ col. option_map without_bound (kind_at (store_meaning raw) (table_numbered it.place) col))
        (λ name. Some (kind_named raw (type_of_prop (names_in raw) raw column_type it.typed.place name))) side.props
        (λ name has. let id = it.ids name has in (id.0, id.1, side_kind name id.0 (column_found raw it.typed.place it.typed.type it.typed.is_type name id.0 id.1) id.1))
        ∙ sym (map-map (λ (type : Option PropType). Some (kind_named raw type)) (λ (name : List ℕ). type_of_prop (names_in raw) raw column_type it.typed.place name) side.props)
        ∙ ap (λ (found : Option ℕ). map (λ (type : Option PropType). Some (kind_named raw type)) (map (λ name. option_and_then (λ i. type_of_prop (names_in raw) raw column_type i name) found) side.props)) (sym it.of_role)

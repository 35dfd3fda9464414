-- What an SSDL document means. What doesn't resolve is left out, empty or the first of its list, so that each document means something.
-- Source: SSDL version 3, Schema, EntitySet, EntityType, Key, Property, Association and ReferentialConstraint.
use Rattle.std.specs.Prelude.{ℕ, List, [], map, slice_get, Option, option_map, unwrap_or}
use Rattle.std.specs.List.{filter_map}
use Rattle.std.specs.Option.{option_and_then, option_map_or}
use Rattle.emc_base.specs.declared.value.Kind.{Kind}
use Rattle.emc_base.specs.declared.value.Kind.TheVariants as kind
use Rattle.edm_types.specs.declared.store.Column.{Column}
use Rattle.edm_types.specs.declared.store.ForeignKey.{ForeignKey}
use Rattle.edm_types.specs.declared.store.StoreModel.{StoreModel}
use Rattle.edm_types.specs.declared.store.Table.{Table}
use Rattle.round_trip.specs.Words.{ColId, TableId}
use Rattle.csdl_names.specs.declared.csdl_lists.raw.RawAssociation.{RawAssociation}
use Rattle.csdl_names.specs.declared.csdl_lists.raw.RawConstraint.{RawConstraint}
use Rattle.csdl_names.specs.declared.csdl_lists.raw.RawModel.{RawModel}
use Rattle.csdl_names.specs.declared.csdl_lists.raw.RawProp.{RawProp}
use Rattle.csdl_names.specs.declared.csdl_lists.raw.RawRole.{RawRole}
use Rattle.csdl_names.specs.declared.csdl_lists.raw.RawSet.{RawSet}
use Rattle.csdl_names.specs.csdl_lists.References.{names_in}
use Rattle.csdl_names.specs.PropPlaces.{own_prop}
use Rattle.csdl_names.specs.Unresolved.{type_of_role}
use Rattle.csdl_meaning.specs.Kinds.{simple_kind}
use Rattle.csdl_meaning.specs.Meaning.{declared_by}
use Rattle.ssdl_model.specs.ssdl_lists.Columns.{column_simple}
use Rattle.ssdl_model.specs.ssdl_lists.Tables.{table_of}

-- the table and the column at a place
abbrev pub table_numbered : ℕ → TableId
table_numbered place = record { index = place }

abbrev pub col_numbered : ℕ → ColId
col_numbered place = record { index = place }

-- the kind of a column
abbrev pub column_kind : RawProp → Kind
column_kind column = option_map_or (simple_kind column.bound) (column_simple column.kind) kind.Boolean

-- a column
abbrev pub column_of : RawProp → Column
column_of column = record { name = column.name; kind = column_kind column; nullable = column.nullable }

module _ (raw : RawModel) where
  -- the column of this name of the type at a place
  abbrev pub col_named : ℕ → List ℕ → Option ColId
  col_named i name = option_map (λ found. col_numbered found.place) (own_prop (names_in raw) raw i name)

  -- the columns of these names of a type that may not be found
  abbrev pub cols_named : Option ℕ → List (List ℕ) → List ColId
  cols_named type names = option_map_or (λ i. filter_map (col_named i) names) type []

  -- the names of the key of the type at a place
  abbrev pub key_of_type : ℕ → List (List ℕ)
  key_of_type i = unwrap_or (option_and_then (λ type. type.key) (slice_get raw.types i)) []

  -- a table with a type that may not be found
  abbrev pub table_with : RawSet → Option ℕ → Table
  table_with set type = record {
    name = set.name;
    cols = option_map_or (λ i. map column_of (declared_by raw i)) type [];
    key = option_map_or (λ i. filter_map (col_named i) (key_of_type i)) type [];
  }

  -- a table
  abbrev pub table_meant : RawSet → Table
  table_meant set = table_with set ((names_in raw).type_named set.element)

  -- the table of a type that may not be found
  abbrev pub table_at : Option ℕ → TableId
  table_at type = table_numbered (unwrap_or (option_and_then (table_of (names_in raw) raw) type) 0)

  -- the type at the role of the Principal or the Dependent of a constraint
  abbrev pub type_of_side : RawAssociation → RawRole → Option ℕ
  type_of_side association side = type_of_role (names_in raw) raw association side.role

  -- a foreign key: from the dependent's table to the principal's
  abbrev pub key_meant : RawAssociation → RawConstraint → ForeignKey
  key_meant association constraint = record {
    name = association.name;
    from = table_at (type_of_side association constraint.dependent);
    from_cols = cols_named (type_of_side association constraint.dependent) constraint.dependent.props;
    to = table_at (type_of_side association constraint.principal);
    to_cols = cols_named (type_of_side association constraint.principal) constraint.principal.props;
  }

  -- the foreign key of an association; None where it has no constraint
  abbrev pub key_of_association : RawAssociation → Option ForeignKey
  key_of_association association = option_map (key_meant association) association.constraint

  -- the store
  abbrev pub store_meaning : StoreModel
  store_meaning = record {
    namespace = raw.namespace;
    container = raw.container.name;
    tables = map table_meant raw.container.sets;
    keys = filter_map key_of_association raw.associations;
  }

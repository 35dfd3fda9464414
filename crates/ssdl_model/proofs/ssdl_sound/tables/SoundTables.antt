-- Tables: their names, the names of their columns, their columns and their keys. V6, V13, V21 to V23.
use Rattle.std.proofs.Common.{◌≡◌, ◌≢◌, ℕ, ◌<◌, ◌≤◌, List, length, map, All, Contains, Some, sym, ap, subst, ◌∙◌, arith}
use Rattle.std.specs.List.{filter_map}
use Rattle.std.proofs.lemmas.List.{length-map}
use Rattle.std.proofs.lemmas.List.Elements.{All-map}
use Rattle.std.proofs.lemmas.Simd.{map-map}
use Rattle.emc_base.specs.Lists.{AreApart}
use Rattle.emc_base.proofs.Lists.{all_from_members}
use Rattle.emc_base.proofs.Mapped.{contains_at}
use Rattle.edm_types.specs.declared.store.Column.{Column}
use Rattle.edm_types.specs.declared.store.Table.{Table}
use Rattle.round_trip.specs.Words.{ColId}
use Rattle.round_trip.specs.soundness.Stores.{HasPrimaryKey, IsKeyColumn, IsSoundColumn, IsSoundTable}
use Rattle.csdl_names.specs.declared.csdl_lists.raw.RawModel.{RawModel}
use Rattle.csdl_names.specs.declared.csdl_lists.raw.RawSet.{RawSet}
use Rattle.csdl_meaning.proofs.kept.Given.{sets_apart}
use Rattle.csdl_meaning.proofs.kept.KeptNames.{key_declared, members_once}
use Rattle.emc_base.proofs.Joined.{apart-left, apart-map, at_map, found_length, in_found, none_long}
use Rattle.ssdl_model.specs.ssdl_making.StoreMeaning.{col_named, column_of, store_meaning, table_meant}
use Rattle.ssdl_model.specs.ssdl_sound.SoundStore.{KeepsStoreRules}
use Rattle.ssdl_model.proofs.ssdl_sound.tables.ColumnIds.{column_found, has_id, ids_apart, ids_inside}
use Rattle.ssdl_model.proofs.ssdl_sound.tables.ColumnKinds.{key_kind, sound_column}
use Rattle.ssdl_model.proofs.ssdl_sound.tables.KeptTables.{fits_bound, for_key, needed}
use Rattle.ssdl_model.proofs.ssdl_sound.tables.MeantTables.{IsTyped, of_each_table, table_by}
use Rattle.ssdl_model.proofs.ssdl_sound.Unbased.{no_base}

module _ (raw : RawModel) (keeps : KeepsStoreRules raw) where
  -- V6: tables have different names
  pub tables_apart : AreApart (map (λ table. table.name) (store_meaning raw).tables)
  tables_apart =
      let P : List (List ℕ) → Type 0 = λ names. AreApart names in
      subst P (sym (map-map (λ (table : Table). table.name) (table_meant raw) raw.container.sets)) (apart-map (λ set. set.name) raw.container.sets (sets_apart raw keeps.repeats_none))

  module _ (set : RawSet) (it : IsTyped raw set) where
    -- the table
    abbrev table : Table
    table = table_by raw set.name it.place it.type.props it.key

    -- V6: its columns have different names
    columns_apart : AreApart (map (λ column. column.name) table.cols)
    columns_apart =
        let P : List (List ℕ) → Type 0 = λ names. AreApart names in
        subst P (sym (map-map (λ (column : Column). column.name) column_of it.type.props))
        (apart-left (λ one other. one ≢ other) (map (λ prop. prop.name) it.type.props) (map (λ nav. nav.name) it.type.navs) (members_once raw keeps.repeats_none it.place it.type it.is_type))

    -- the ids of its key are in range
    key_inside : All (λ col. col.index < length table.cols) table.key
    key_inside =
        let P : ℕ → Type 0 = λ count. All (λ (col : ColId). col.index < count) (filter_map (col_named raw it.place) it.key) in
        subst P (sym (length-map it.type.props column_of)) (ids_inside raw it.place it.type it.is_type it.key)

    -- V7: each name of the key has an id
    key_ids : (name : List ℕ) → Contains it.key name → (col : ColId) × (col_named raw it.place name ≡ Some col)
    key_ids name has =
        let column = key_declared raw keeps.resolves_all it.place it.type it.key it.is_type (no_base raw keeps.unbased it.place it.type it.is_type) it.has_key name has in
        has_id raw it.place it.type it.is_type column.0 name column.1 column.2

    key_length : length table.key ≡ length it.key
    key_length = found_length (col_named raw it.place) it.key key_ids

    -- V22, V23: what stands at an id of the key
    key_column : (col : ColId) → Contains table.key col → IsKeyColumn table col
    key_column col has =
        let name = in_found (col_named raw it.place) it.key col has in
        let found = column_found raw it.place it.type it.is_type name.0 col name.2 in
        let P : List ℕ → Type 0 = λ name. Contains it.key name in
        let named = subst P (sym found.is_name) name.1 in
        let there = contains_at it.type.props col.index found.column found.is_column in
        record {
          column = column_of found.column;
          is_column = at_map column_of it.type.props col.index found.column found.is_column;
          needed = needed raw keeps.keeps_tables it.place it.type it.is_type it.key it.has_key found.column there named;
          kind = key_kind found.column (for_key raw keeps.keeps_tables it.place it.type it.is_type it.key it.has_key found.column there named);
        }

    -- V22, V23
    primary_key : HasPrimaryKey table
    primary_key = record {
      some = λ none. it.is_key.some (none_long it.key (sym key_length ∙ ap length none));
      few = let same : length (filter_map (col_named raw it.place) it.key) ≡ length it.key = key_length in let few : length it.key ≤ 4 = it.is_key.few in omega (arith, same, few);
      once = ids_apart raw it.place it.type it.is_type it.key it.is_key.once;
      columns = all_from_members (IsKeyColumn table) table.key key_column;
    }

    -- V13, V21 to V23
    sound_table : IsSoundTable table
    sound_table = record {
      columns = All-map IsSoundColumn column_of it.type.props (all_from_members (λ column. IsSoundColumn (column_of column)) it.type.props (λ column has.
          sound_column column (fits_bound raw keeps.keeps_tables it.place it.type it.is_type column has)));
      key = primary_key;
    }

  -- the same of all tables
  pub all_columns_apart : All (λ table. AreApart (map (λ column. column.name) table.cols)) (store_meaning raw).tables
  all_columns_apart = of_each_table raw keeps (λ table. AreApart (map (λ column. column.name) table.cols)) columns_apart

  pub keys_inside : All (λ table. All (λ col. col.index < length table.cols) table.key) (store_meaning raw).tables
  keys_inside = of_each_table raw keeps (λ table. All (λ col. col.index < length table.cols) table.key) key_inside

  pub sound_tables : All IsSoundTable (store_meaning raw).tables
  sound_tables = of_each_table raw keeps IsSoundTable sound_table

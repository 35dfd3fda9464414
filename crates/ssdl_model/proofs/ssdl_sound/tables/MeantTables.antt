-- The types of tables, and what a table means by its type. V7, V22.
use Rattle.std.proofs.Common.{◌≡◌, ℕ, List, [], map, All, Option, Some, ap, subst, sym, ◌∙◌}
use Rattle.std.specs.List.{filter_map}
use Rattle.std.specs.Option.{option_and_then, option_map_or, unwrap_or}
use Rattle.std.proofs.lemmas.List.Elements.{All-map}
use Rattle.emc_base.specs.Lists.{At}
use Rattle.emc_base.proofs.Lists.{item_at}
use Rattle.edm_types.specs.declared.store.Table.{Table}
use Rattle.csdl_names.specs.declared.csdl_lists.raw.RawModel.{RawModel}
use Rattle.csdl_names.specs.declared.csdl_lists.raw.RawProp.{RawProp}
use Rattle.csdl_names.specs.declared.csdl_lists.raw.RawSet.{RawSet}
use Rattle.csdl_names.specs.declared.csdl_lists.raw.RawType.{RawType}
use Rattle.csdl_names.specs.csdl_lists.References.{names_in}
use Rattle.csdl_names.proofs.csdl_lists.Within.{type_within}
use Rattle.csdl_types.specs.Keys.{IsKey}
use Rattle.emc_base.proofs.Joined.{all_from_places}
use Rattle.csdl_meaning.proofs.kept.Resolved.{element_found}
use Rattle.ssdl_model.specs.ssdl_making.StoreMeaning.{col_named, column_of, store_meaning, table_meant, table_with}
use Rattle.ssdl_model.specs.ssdl_sound.SoundStore.{KeepsStoreRules}
use Rattle.ssdl_model.proofs.ssdl_sound.tables.KeptTables.{has_key}

-- a table by its name, the place of its type, its columns and its key
abbrev pub table_by : RawModel → List ℕ → ℕ → List RawProp → List (List ℕ) → Table
table_by raw name i columns key = record { name = name; cols = map column_of columns; key = filter_map (col_named raw i) key }

-- a table's type, and its key
pub record IsTyped (raw : RawModel) (set : RawSet) : Type 0 where
  pub place : ℕ
  pub is_place : (names_in raw).type_named set.element ≡ Some place
  pub type : RawType
  pub is_type : At raw.types place type
  pub key : List (List ℕ)
  pub has_key : type.key ≡ Some key
  pub is_key : IsKey key

-- so this is the table
pub table_is : (raw : RawModel) (set : RawSet) (it : IsTyped raw set) → table_meant raw set ≡ table_by raw set.name it.place it.type.props it.key
table_is raw set it =
    ap (table_with raw set) it.is_place
    ∙ ap (λ (found : Option RawType). table_by raw set.name it.place (option_map_or (λ type. type.props) found []) (unwrap_or (option_and_then (λ type. type.key) found) [])) it.is_type
    ∙ ap (λ (key : Option (List (List ℕ))). table_by raw set.name it.place it.type.props (unwrap_or key [])) it.has_key

module _ (raw : RawModel) (keeps : KeepsStoreRules raw) where
  -- a table of a type
  pub typed_by : (set : RawSet) (t : ℕ) → (names_in raw).type_named set.element ≡ Some t → IsTyped raw set
  typed_by set t is =
      let type = item_at raw.types t (type_within raw set.element t is) in
      let key = has_key raw keeps.keeps_tables t type.0 type.1 in
      record { place = t; is_place = is; type = type.0; is_type = type.1; key = key.0; has_key = key.1; is_key = key.2 }

  -- what holds of each table by its type
  pub of_each_table : (P : Table → Type 0) → ((set : RawSet) (it : IsTyped raw set) → P (table_by raw set.name it.place it.type.props it.key)) → All P (store_meaning raw).tables
  of_each_table P holds = All-map P (table_meant raw) raw.container.sets (all_from_places (λ set. P (table_meant raw set)) raw.container.sets (λ k set here.
      let found = element_found raw keeps.resolves_all k set here in
      let it = typed_by set found.0 found.1 in
      subst P (sym (table_is raw set it)) (holds set it)))

-- The names of tables and columns that a document gives are texts.
use Rattle.std.proofs.Common.{◌≡◌, ℕ, List, [], get_or, map, All, IsUtf8, Option, Some, None, slice_get, codes, refl}
use Rattle.std.specs.Option.{option_map_or}
use Rattle.std.specs.Prelude.{unwrap_or}
use Rattle.std.proofs.lemmas.List.Elements.{All-map, All-nil}
use Rattle.serde_json.specs.Data.{Data, null}
use Rattle.json_form.specs.TreeParts.{tree_at}
use Rattle.json_form.specs.from_nodes.Reading.{items_at, object_at}
use Rattle.csdl_names.specs.declared.csdl_lists.raw.RawProp.{RawProp}
use Rattle.csdl_names.specs.declared.csdl_lists.raw.RawSet.{RawSet}
use Rattle.csdl_names.specs.declared.csdl_lists.raw.RawType.{RawType}
use Rattle.csdl_names.specs.csdl_lists.Raw.{raw_prop, raw_set}
use Rattle.csdl_names.specs.csdl_lists.References.{names_in}
use Rattle.csdl_meaning.specs.Meaning.{declared_by}
use Rattle.ssdl_model.specs.ssdl_lists.RawStore.{raw_store, raw_table}
use Rattle.ssdl_model.specs.ssdl_making.StoreMeaning.{column_of, store_meaning, table_meant}
use Rattle.round_trip.specs.Words.{Table, Column}
use Rattle.data_documents.specs.printed.Names.{HasTextNames}
use Rattle.data_documents.specs.printed.Texts.{HasTexts}
use Rattle.data_documents.proofs.printed.Lists.{all_at}
use Rattle.data_documents.proofs.printed.texts.Nodes.{items_at_texts, object_at_texts, read_of_bytes, text_at_text}
use Rattle.mapping_core.specs.Rules.{store_in, tree_in}

by_tree : (bytes : List ℕ) (found : Option Data) → tree_at bytes ≡ found → HasTexts (unwrap_or found null)
by_tree bytes None is = tt
by_tree bytes (Some d) is = read_of_bytes bytes d is

-- the tree that a file holds has texts
pub file_texts : (bytes : List ℕ) → HasTexts (tree_in bytes)
file_texts bytes = by_tree bytes (tree_at bytes) refl

abbrev IsTextProp : RawProp → Type 0
IsTextProp prop = IsUtf8 prop.name

abbrev IsTextType : RawType → Type 0
IsTextType type = All IsTextProp type.props

abbrev IsTextColumn : Column → Type 0
IsTextColumn column = IsUtf8 column.name

module _ (d : Data) (texts : HasTexts d) where
  props_text : (node : Data) → HasTexts node → All IsTextProp (map raw_prop (items_at (codes "Property") node))
  props_text node has = All-map IsTextProp raw_prop (items_at (codes "Property") node)
      (λ k part within. text_at_text (codes "Name") _ (items_at_texts (codes "Property") node has k part within))

  types_text : All IsTextType (raw_store d).types
  types_text = All-map IsTextType raw_table (items_at (codes "EntityType") d)
      (λ k part within. props_text _ (items_at_texts (codes "EntityType") d texts k part within))

  sets_text : All (λ (set : RawSet). IsUtf8 set.name) (raw_store d).container.sets
  sets_text =
      let container = object_at (codes "EntityContainer") d in
      All-map (λ (set : RawSet). IsUtf8 set.name) raw_set (items_at (codes "EntitySet") container)
      (λ k part within. text_at_text (codes "Name") _ (items_at_texts (codes "EntitySet") container (object_at_texts (codes "EntityContainer") d texts) k part within))

  declared_text : (i : ℕ) → All IsTextProp (declared_by (raw_store d) i)
  declared_text i = by (slice_get (raw_store d).types i) refl
    where
      by : (found : Option RawType) → slice_get (raw_store d).types i ≡ found → All IsTextProp (option_map_or (λ (type : RawType). type.props) found [])
      by None is = All-nil IsTextProp
      by (Some type) is = all_at IsTextType (raw_store d).types i type types_text is

  columns_text : (type : Option ℕ) → All IsTextColumn (option_map_or (λ i. map column_of (declared_by (raw_store d) i)) type [])
  columns_text None = All-nil IsTextColumn
  columns_text (Some i) = All-map IsTextColumn column_of (declared_by (raw_store d) i) (declared_text i)

  pub store_texts : HasTextNames (store_meaning (raw_store d))
  store_texts = record {
    tables = All-map (λ (table : Table). IsUtf8 table.name) (table_meant (raw_store d)) (raw_store d).container.sets sets_text;
    columns = All-map (λ (table : Table). All IsTextColumn table.cols) (table_meant (raw_store d)) (raw_store d).container.sets (λ k set within. columns_text ((names_in (raw_store d)).type_named (get_or (raw_store d).container.sets k set).element));
  }

-- so in the store that a file means
pub names_of_store : (ssdl : List ℕ) → HasTextNames (store_in ssdl)
names_of_store ssdl = store_texts (tree_in ssdl) (file_texts ssdl)

-- An SSDL document as lists of what is written in it. SSDL is written in the words of CSDL, so its lists are those of CSDL: an entity set is a
-- table, its type has the columns and the key, and an association is a foreign key. There are no association sets, which are passed over,
-- and no enumeration types, base types and navigation properties, which no SSDL document has.
-- Source: SSDL version 3, in the profile of this project.
use Rattle.std.specs.Prelude.{◌≡◌, [], Some, None, false, map, All, codes}
use Rattle.serde_json.specs.Data.{Data}
use Rattle.json_form.specs.from_nodes.Reading.{items_at, object_at, optional_text_at, text_at, texts_at}
use Rattle.csdl_names.specs.declared.csdl_lists.raw.RawContainer.{RawContainer}
use Rattle.csdl_names.specs.declared.csdl_lists.raw.RawModel.{RawModel}
use Rattle.csdl_names.specs.declared.csdl_lists.raw.RawType.{RawType}
use Rattle.csdl_names.specs.csdl_lists.Raw.{raw_association, raw_prop, raw_set}

-- an EntityType
abbrev pub raw_table : Data → RawType
raw_table d = record { name = text_at (codes "Name") d; base = None; is_abstract = false; key = Some (texts_at (codes "Key") d); props = map raw_prop (items_at (codes "Property") d); navs = [] }

-- the EntityContainer
abbrev pub raw_tables : Data → RawContainer
raw_tables d = record { name = text_at (codes "Name") d; sets = map raw_set (items_at (codes "EntitySet") d); association_sets = [] }

-- an SSDL document
abbrev pub raw_store : Data → RawModel
raw_store d = record { namespace = text_at (codes "Namespace") d; alias = optional_text_at (codes "Alias") d; container = raw_tables (object_at (codes "EntityContainer") d); types = map raw_table (items_at (codes "EntityType") d); enums = []; associations = map raw_association (items_at (codes "Association") d) }

-- no type has a base type
abbrev pub IsUnbased : RawModel → Type 0
IsUnbased model = All (λ type. type.base ≡ None) model.types

-- An MSL document as lists of what is written in it. Names are texts, and nothing is resolved. Where a member is missing, or of another
-- form than the layout says, there is a default, so that each tree is read.
-- Source: MSL version 3, in the profile of this project.
use Rattle.std.specs.Prelude.{ℕ, List, Bool, Option, map, codes}
use Rattle.std.specs.Option.{option_and_then}
use Rattle.serde_json.specs.Data.{Data}
use Rattle.serde_json.specs.Find.{as_bool, get}
use Rattle.json_form.specs.from_nodes.Reading.{items_at, object_at, optional_text_at, text_at}
use Rattle.msl_rules.specs.declared.msl_lists.raw.RawCond.{RawCond}
use Rattle.msl_rules.specs.declared.msl_lists.raw.RawEndMapping.{RawEndMapping}
use Rattle.msl_rules.specs.declared.msl_lists.raw.RawFragment.{RawFragment}
use Rattle.msl_rules.specs.declared.msl_lists.raw.RawLinkMapping.{RawLinkMapping}
use Rattle.msl_rules.specs.declared.msl_lists.raw.RawMapping.{RawMapping}
use Rattle.msl_rules.specs.declared.msl_lists.raw.RawPair.{RawPair}
use Rattle.msl_rules.specs.declared.msl_lists.raw.RawPick.{RawPick}
use Rattle.msl_rules.specs.declared.msl_lists.raw.RawSetMapping.{RawSetMapping}
use Rattle.msl_rules.specs.declared.msl_lists.raw.RawTypeMapping.{RawTypeMapping}
use Rattle.msl_rules.specs.msl_lists.Picks.{raw_picks}

-- the flag of a member, where it is one
abbrev pub optional_flag_at : List ℕ → Data → Option Bool
optional_flag_at name d = option_and_then as_bool (get name d)

-- a ScalarProperty
abbrev pub raw_pair : Data → RawPair
raw_pair d = record { prop = text_at (codes "Name") d; col = text_at (codes "ColumnName") d }

-- a Condition
abbrev pub raw_cond : Data → RawCond
raw_cond d = record { prop = optional_text_at (codes "Name") d; col = optional_text_at (codes "ColumnName") d; value = optional_text_at (codes "Value") d; is_null = optional_flag_at (codes "IsNull") d }

-- a MappingFragment
abbrev pub raw_fragment : Data → RawFragment
raw_fragment d = record { table = text_at (codes "StoreEntitySet") d; pairs = map raw_pair (items_at (codes "ScalarProperty") d); conds = map raw_cond (items_at (codes "Condition") d) }

-- the items of a TypeName
abbrev pub picks_at : Data → List RawPick
picks_at d = raw_picks (text_at (codes "TypeName") d)

-- an EntityTypeMapping
abbrev pub raw_type_mapping : Data → RawTypeMapping
raw_type_mapping d = record { picks = picks_at d; fragments = map raw_fragment (items_at (codes "MappingFragment") d) }

-- an EntitySetMapping
abbrev pub raw_set_mapping : Data → RawSetMapping
raw_set_mapping d = record { name = text_at (codes "Name") d; types = map raw_type_mapping (items_at (codes "EntityTypeMapping") d) }

-- an EndProperty
abbrev pub raw_end_mapping : Data → RawEndMapping
raw_end_mapping d = record { role = text_at (codes "Name") d; pairs = map raw_pair (items_at (codes "ScalarProperty") d) }

-- an AssociationSetMapping
abbrev pub raw_link_mapping : Data → RawLinkMapping
raw_link_mapping d = record { name = text_at (codes "Name") d; association = text_at (codes "TypeName") d; table = text_at (codes "StoreEntitySet") d; ends = map raw_end_mapping (items_at (codes "EndProperty") d); conds = map raw_cond (items_at (codes "Condition") d) }

-- the EntityContainerMapping
abbrev pub raw_container : Data → RawMapping
raw_container d = record { store_container = text_at (codes "StorageEntityContainer") d; model_container = text_at (codes "CdmEntityContainer") d; sets = map raw_set_mapping (items_at (codes "EntitySetMapping") d); links = map raw_link_mapping (items_at (codes "AssociationSetMapping") d) }

-- an MSL document
abbrev pub raw_mapping : Data → RawMapping
raw_mapping d = raw_container (object_at (codes "EntityContainerMapping") d)

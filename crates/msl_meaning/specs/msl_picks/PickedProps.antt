-- The types that the items of a TypeName name, and the properties that a name stands for in them. Only for the functions that look for a
-- shared one.
use Rattle.std.specs.Prelude.{ℕ, List, Option}
use Rattle.std.specs.Option.{option_and_then}
use Rattle.round_trip.specs.Words.{PropId, EntityModel}
use Rattle.schema_names.specs.SchemaNames.{prop_named, type_named}
use Rattle.msl_rules.specs.declared.msl_lists.raw.RawPick.{RawPick}

-- the place of the type of an item; none where the type isn't found
abbrev pub pick_type : EntityModel → RawPick → Option ℕ
pick_type model pick = type_named model pick.reference

-- the property that a name stands for in a type; none where there is no type, or where it has no property of this name
abbrev pub prop_in : EntityModel → List ℕ → Option ℕ → Option PropId
prop_in model name ty = option_and_then (λ t. prop_named model t name) ty

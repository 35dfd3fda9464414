-- What the name of a property stands for where one type has it.
-- Source: MSL version 3, ScalarProperty and Condition.
use Rattle.std.specs.Prelude.{ℕ, List, Option}
use Rattle.std.specs.Option.{option_and_then}
use Rattle.round_trip.specs.Words.{PropId, EntityModel}
use Rattle.schema_names.specs.SchemaNames.{prop_named}

-- the property of this name that the type at a place has; nothing where there is no type
abbrev pub named_at : EntityModel → Option ℕ → List ℕ → Option PropId
named_at model ty name = option_and_then (λ t. prop_named model t name) ty

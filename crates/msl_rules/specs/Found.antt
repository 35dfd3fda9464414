-- What the names and the conditions in a mapping document stand for, in a model and a store.
-- Source: MSL version 3, EntityTypeMapping, ScalarProperty, Condition and EndProperty.
use Rattle.std.specs.Prelude.{ℕ, List, [], Bool, Option, Some, None, find, option_and_then, option_map, slice_get}
use Rattle.std.specs.List.{filter_map}
use Rattle.std.specs.Option.{option_map_or}
use Rattle.std.specs.Str.{bytes_eq}
use Rattle.round_trip.specs.Words.{SetId, AssocId, PropId, TableId, ColId, Kind, EntityModel, StoreModel, Assoc, End, Pick, Pair, Cond, CondOn, Test}
use Rattle.edm_types.specs.declared.mapping.CondOn.TheVariants as on
use Rattle.edm_types.specs.declared.mapping.Test.TheVariants.{IsNull, Equals}
use Rattle.edm_types.specs.Forest.{type_numbered}
use Rattle.round_trip.specs.soundness.Lookups.{prop_kind, column_kind}
use Rattle.schema_names.specs.SchemaNames.{type_named, prop_named, column_named, end_of_role}
use Rattle.schema_names.specs.declared.ends.WhichEnd.{WhichEnd}
use Rattle.schema_names.specs.declared.ends.WhichEnd.TheVariants.{First, Second}
use Rattle.msl_rules.specs.condition_values.Spelled.{spelled}
use Rattle.msl_rules.specs.declared.msl_lists.raw.RawPick.{RawPick}
use Rattle.msl_rules.specs.declared.msl_lists.raw.RawPair.{RawPair}
use Rattle.msl_rules.specs.declared.msl_lists.raw.RawCond.{RawCond}
use Rattle.msl_rules.specs.declared.msl_lists.raw.RawEndMapping.{RawEndMapping}

-- the entity set, the association set, the table and the column at a place
abbrev pub set_numbered : ℕ → SetId
set_numbered place = record { index = place }

abbrev pub assoc_numbered : ℕ → AssocId
assoc_numbered place = record { index = place }

abbrev pub table_numbered : ℕ → TableId
table_numbered place = record { index = place }

abbrev pub col_numbered : ℕ → ColId
col_numbered place = record { index = place }

-- the property of a name that the first of the picked types has
abbrev pub prop_of_picks : EntityModel → List RawPick → List ℕ → Option PropId
prop_of_picks model picks name =
    option_and_then (λ pick. option_and_then (λ t. prop_named model t name) (type_named model pick.reference)) (slice_get picks 0)

-- an item of a TypeName, where its type is found
abbrev pub pick_in : EntityModel → RawPick → Option Pick
pick_in model pick = option_map (λ t. record { ty = type_numbered t; below = pick.below }) (type_named model pick.reference)

-- what a text compares with: the value that it gives for the kind, where there is one; or whether something is null
abbrev pub test_of : Option Kind → Option (List ℕ) → Option Bool → Option Test
test_of kind (Some text) None = option_map Equals (option_and_then (λ known. spelled known text) kind)
test_of kind None (Some flag) = Some (IsNull flag)
test_of kind _ _ = None

-- by what a name of a property stands for, in the table at this place
module _ (model : EntityModel) (store : StoreModel) (named : List ℕ → Option PropId) (t : ℕ) where
  -- a property and the column that it is written to, where both are found
  abbrev pub pair_in : RawPair → Option Pair
  pair_in pair = option_and_then (λ p. option_map (λ c. record { prop = p; col = col_numbered c }) (column_named store t pair.col)) (named pair.prop)

  -- those of a list
  abbrev pub pairs_in : List RawPair → List Pair
  pairs_in pairs = filter_map pair_in pairs

  -- what a condition is on: the property, or the column, where it names just one of these
  abbrev pub named_on : Option (List ℕ) → Option (List ℕ) → Option CondOn
  named_on (Some name) None = option_map on.Prop (named name)
  named_on None (Some name) = option_map (λ c. on.Col (col_numbered c)) (column_named store t name)
  named_on _ _ = None

  abbrev pub on_in : RawCond → Option CondOn
  on_in cond = named_on cond.prop cond.col

  -- the kind of what a condition is on
  abbrev pub kind_on : CondOn → Option Kind
  kind_on (on.Prop p) = prop_kind model p
  kind_on (on.Col c) = column_kind store (table_numbered t) c

  -- a condition, where it is well-formed
  abbrev pub cond_in : RawCond → Option Cond
  cond_in cond = option_and_then (λ what. option_map (λ test. record { on = what; test = test }) (test_of (kind_on what) cond.value cond.is_null)) (on_in cond)

  -- those of a list
  abbrev pub conds_in : List RawCond → List Cond
  conds_in conds = filter_map cond_in conds

-- an end of an association
abbrev pub end_at : Assoc → WhichEnd → End
end_at assoc First = assoc.first
end_at assoc Second = assoc.second

-- the end of an association that has this role
abbrev pub role_end : Assoc → List ℕ → Option End
role_end assoc role = option_map (end_at assoc) (end_of_role assoc role)

-- the pairs of the end of an association that has this role and type, in the table at this place
abbrev pub end_pairs : EntityModel → StoreModel → ℕ → End → List RawEndMapping → List Pair
end_pairs model store t end mappings =
    option_map_or (λ mapping. pairs_in model store (prop_named model end.ty.index) t mapping.pairs) (find (λ mapping. bytes_eq end.role mapping.role) mappings) []

-- Which table has which type.
-- Source: SSDL version 3, EntitySet and its EntityType.
use Rattle.std.specs.Prelude.{◌≡◌, ◌==◌, ◌<◌, ℕ, List, length, Option, Some, None, cond, position, slice_get, Bool, false}
use Rattle.std.specs.Option.{option_and_then, option_map_or, option_or}
use Rattle.csdl_names.specs.declared.csdl_lists.raw.RawModel.{RawModel}
use Rattle.csdl_names.specs.declared.csdl_lists.raw.RawSet.{RawSet}
use Rattle.csdl_names.specs.csdl_lists.References.{Names}

-- this is the place
abbrev pub is_place : ℕ → Option ℕ → Bool
is_place i type = option_map_or (λ other. other == i) type false

module _ (names : Names) where
  -- the entity set is of the type at a place
  abbrev pub is_of_type : ℕ → RawSet → Bool
  is_of_type i set = is_place i (names.type_named set.element)

  -- the first table of the type at a place
  abbrev pub table_of : RawModel → ℕ → Option ℕ
  table_of model i = position (is_of_type i) model.container.sets

-- what a list of tables says of a type; nothing outside of the list
abbrev pub table_in : List (Option ℕ) → ℕ → Option ℕ
table_in tables i = option_and_then (λ (table : Option ℕ). table) (slice_get tables i)

-- the type at a place, where there is one and it has no table, has this table besides those that were known
pub record IsTabled (before : List (Option ℕ)) (type : Option ℕ) (table : ℕ) (now : List (Option ℕ)) : Type 0 where
  pub alike : length now ≡ length before
  pub each : (i : ℕ) → i < length before → table_in now i ≡ option_or (table_in before i) (cond (is_place i type) (Some table) None)

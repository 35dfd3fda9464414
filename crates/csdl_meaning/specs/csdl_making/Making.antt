-- What is known while a model is made: where the properties of each type begin, what each type inherits, and which types stand below each.
-- Source: CSDL version 3, EntityType, BaseType, Key and Property.
use Rattle.std.specs.Prelude.{◌≡◌, ◌+◌, ◌<◌, ℕ, List, [], length, get_or, map, Option, option_map}
use Rattle.std.specs.List.{flat_map, range_with_len}
use Rattle.emc_base.specs.Lists.{At}
use Rattle.round_trip.specs.Words.{EntityType, PropId}
use Rattle.edm_types.specs.Forest.{type_numbered}
use Rattle.round_trip.specs.soundness.models.Inheritance.{prop_numbered}
use Rattle.graphs.specs.base_chains.Chains.{chain}
use Rattle.csdl_names.specs.declared.csdl_lists.raw.RawModel.{RawModel}
use Rattle.csdl_names.specs.declared.csdl_lists.raw.RawType.{RawType}
use Rattle.csdl_names.specs.declared.lookups.PropPlace.{PropPlace}
use Rattle.csdl_meaning.specs.Meaning.{base_in, chain_in, declared_before, is_base, nav_of, type_places}

-- the list at a place; the empty one outside
abbrev pub list_at : {X : Type 0} → List (List X) → ℕ → List X
list_at lists i = get_or lists i []

-- what a place and all that stand above it have of their own, that of the root first
abbrev pub chain_list : {X : Type 0} → (ℕ → Option ℕ) → ℕ → List (List X) → ℕ → List X
chain_list base count own i = flat_map (list_at own) (chain base count i)

module _ (raw : RawModel) where
  -- for each type, how many properties the types before it declare
  abbrev pub AreStarts : List ℕ → Type 0
  AreStarts starts = starts ≡ map (declared_before raw) (range_with_len 0 (length raw.types))

  -- the id of the property at a place
  abbrev pub id_of_place : PropPlace → PropId
  id_of_place found = prop_numbered (declared_before raw found.owner + found.place)

  -- for each type what it has and all in its chain have
  abbrev pub AreInherited : (ℕ → List PropId) → List (List PropId) → Type 0
  AreInherited own lists = (i : ℕ) → i < length raw.types → list_at lists i ≡ flat_map own (chain_in raw i)

  -- the same, where these lists are what each type has of its own
  abbrev pub AddInherited : List (List PropId) → List (List PropId) → Type 0
  AddInherited owns lists = (own : ℕ → List PropId) → owns ≡ map own (range_with_len 0 (length raw.types)) → AreInherited own lists

  -- a type with this key and these properties
  abbrev pub type_with : ℕ → RawType → List PropId → List PropId → EntityType
  type_with i type key props = record {
    name = type.name;
    base = option_map type_numbered (base_in raw i);
    is_abstract = type.is_abstract;
    key = key;
    props = props;
    navs = map (nav_of raw) type.navs;
  }

  -- there is a list for each type, and each holds the types that are based on one
  pub record AreChildren (children : List (List ℕ)) : Type 0 where
    pub alike : length children ≡ length raw.types
    pub each : (i : ℕ) (below : List ℕ) → At children i below → below ≡ type_places raw (is_base raw i)

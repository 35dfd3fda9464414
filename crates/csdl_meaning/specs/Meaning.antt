-- What a CSDL document means. What doesn't resolve is left out, empty or the first of its list, so that each document means something.
-- Source: CSDL version 3, Schema, EntityType, BaseType, Key, Property, NavigationProperty, EntitySet, Association and AssociationSet.
use Rattle.std.specs.Prelude.{◌≡◌, ◌==◌, ℕ, zero, suc, ◌+◌, List, [], length, filter, map, take, slice_get, sum_by, Option, option_map, unwrap_or, is_none, Bool, false}
use Rattle.std.specs.List.{enumerate_from, filter_map, flat_map, range_with_len}
use Rattle.std.specs.Option.{option_and_then, option_map_or}
use Rattle.round_trip.specs.Words.{EntityModel, EntityType, Nav, Prop, PropId, TypeNode}
use Rattle.edm_types.specs.declared.model.TypeNode.{roll-TypeNode}
use Rattle.edm_types.specs.Forest.{type_numbered}
use Rattle.round_trip.specs.soundness.models.Inheritance.{prop_numbered}
use Rattle.graphs.specs.base_chains.Chains.{chain}
use Rattle.groupings.specs.name_places.GivenNames.{first_place}
use Rattle.csdl_names.specs.declared.csdl_lists.raw.RawModel.{RawModel}
use Rattle.csdl_names.specs.declared.csdl_lists.raw.RawNav.{RawNav}
use Rattle.csdl_names.specs.declared.csdl_lists.raw.RawProp.{RawProp}
use Rattle.csdl_names.specs.declared.csdl_lists.raw.RawType.{RawType}
use Rattle.csdl_names.specs.csdl_lists.References.{base_of, names_in}
use Rattle.csdl_meaning.specs.Kinds.{kind_of}

module _ (raw : RawModel) where
  -- the base type of the type at a place
  abbrev pub base_in : ℕ → Option ℕ
  base_in = base_of (names_in raw) raw

  -- a type after all that stand above it, the root first
  abbrev pub chain_in : ℕ → List ℕ
  chain_in i = chain base_in (length raw.types) i

  -- the properties that a type declares
  abbrev pub declared_by : ℕ → List RawProp
  declared_by i = option_map_or (λ type. type.props) (slice_get raw.types i) []

  -- how many properties the types before a type declare
  abbrev pub declared_before : ℕ → ℕ
  declared_before i = sum_by (λ type. length type.props) (take i raw.types)

  -- the ids of the properties that a type declares: their places among the declared properties of all types
  abbrev pub own_props : ℕ → List PropId
  own_props i = map prop_numbered (range_with_len (declared_before i) (length (declared_by i)))

  -- the id of the property with this name that a type declares
  abbrev pub prop_named : ℕ → List ℕ → Option PropId
  prop_named i name = option_map (λ k. prop_numbered (declared_before i + k)) (first_place (λ prop. prop.name) (declared_by i) name)

  -- the key that a type declares
  abbrev pub own_key : ℕ → List PropId
  own_key i = filter_map (prop_named i) (unwrap_or (option_and_then (λ type. type.key) (slice_get raw.types i)) [])

  -- a navigation property, by the name of its association without Namespace or Alias
  abbrev pub nav_of : RawNav → Nav
  nav_of nav = record {
    name = nav.name;
    assoc_name = option_map_or (λ association. association.name) (option_and_then (slice_get raw.associations) ((names_in raw).association_named nav.relationship)) [];
    from_role = nav.from_role;
    to_role = nav.to_role;
  }

  -- a type: its key and its properties are those of all in its chain
  abbrev pub type_of : ℕ → RawType → EntityType
  type_of i type = record {
    name = type.name;
    base = option_map type_numbered (base_in i);
    is_abstract = type.is_abstract;
    key = flat_map own_key (chain_in i);
    props = flat_map own_props (chain_in i);
    navs = map nav_of type.navs;
  }

  -- a property of the type at a place
  abbrev pub prop_of : ℕ → RawProp → Prop
  prop_of i prop = record { owner = type_numbered i; name = prop.name; kind = kind_of raw prop; nullable = prop.nullable }

  -- the types of the document
  abbrev pub types_in : List EntityType
  types_in = map (λ place. type_of place.0 place.1) (enumerate_from 0 raw.types)

  -- the declared properties of all types
  abbrev pub props_in : List Prop
  props_in = flat_map (λ place. map (prop_of place.0) place.1.props) (enumerate_from 0 raw.types)

  -- a type is the base type of another, and has none
  abbrev pub is_base : ℕ → ℕ → Bool
  is_base i j = option_map_or (λ base. base == i) (base_in j) false

  abbrev pub is_top : ℕ → Bool
  is_top i = is_none (base_in i)

  -- the places of the types that pass the test, in their order
  abbrev pub type_places : (ℕ → Bool) → List ℕ
  type_places test = filter test (range_with_len 0 (length raw.types))

  -- the type at a place is abstract
  abbrev pub is_abstract_at : ℕ → Bool
  is_abstract_at i = option_map_or (λ type. type.is_abstract) (slice_get raw.types i) false

  -- a type with those that are derived from it, so many levels of them at most
  abbrev pub node_upto : ℕ → ℕ → TypeNode
  node_upto zero i = roll-TypeNode (record { id = type_numbered i; is_abstract = is_abstract_at i; children = [] })
  node_upto (suc n) i = roll-TypeNode (record { id = type_numbered i; is_abstract = is_abstract_at i; children = map (λ j. node_upto n j) (type_places (is_base i)) })

  -- the forest of the base types: a tree for each type without a base
  abbrev pub forest_in : List TypeNode
  forest_in = map (λ i. node_upto (length raw.types) i) (type_places is_top)

  -- the model has the types and the properties of the document
  pub record IsMeant (model : EntityModel) : Type 0 where
    pub types : model.types ≡ types_in
    pub props : model.props ≡ props_in

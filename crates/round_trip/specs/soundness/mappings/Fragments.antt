-- What fragments pick and write.
-- Source: MSL version 3, EntityTypeMapping, MappingFragment, ScalarProperty, AssociationSetMapping and EndProperty. That the primary key
-- is written whole is the profile's choice.
use Rattle.std.specs.Prelude.{◌≡◌, ◌⊎◌, List, ◌++◌, map, All, Any, Contains, Some}
use Rattle.round_trip.specs.Words.{TypeId, PropId, TableId, Kind, EntityModel, Fragment, Pair, LinkFragment, Schema, props_of, key_props, key_columns}
use Rattle.edm_types.specs.declared.mapping.CondOn.TheVariants as on
use Rattle.emc_base.specs.Lists.{AreApart, HoldsEachOnce}
use Rattle.round_trip.specs.soundness.Kinds.{Corresponds}
use Rattle.round_trip.specs.soundness.Lookups.{prop_kind, column_kind, set_key, IsUnderElement}

-- V27: each picked type is the element type of the fragment's set, or derived from it
abbrev pub PicksOfSet : Schema → Fragment → Type 0
PicksOfSet schema fragment = All (λ pick. IsUnderElement schema.model fragment.set pick.ty) fragment.picks

-- the fragment names the property: it writes it, or a condition is on it
abbrev pub NamesProp : Fragment → PropId → Type 0
NamesProp fragment prop = Any (λ pair. pair.prop ≡ prop) fragment.pairs ⊎ Any (λ cond. cond.on ≡ on.Prop prop) fragment.conds

-- V28: each property that the fragment names is one of each picked type
abbrev pub NamesSharedProps : Schema → Fragment → Type 0
NamesSharedProps schema fragment = (prop : PropId) → NamesProp fragment prop → All (λ pick. Contains (props_of schema.model pick.ty) prop) fragment.picks

-- V29: the column that a property is written to holds what the property does
abbrev pub WritesToFitting : Schema → TableId → Pair → Type 0
WritesToFitting schema table pair = (property column : Kind) → prop_kind schema.model pair.prop ≡ Some property
    → column_kind schema.store table pair.col ≡ Some column → Corresponds property column

-- V30: each property of the set's key is written to the primary key, and each column of this is written so
pub record WritesKey (schema : Schema) (fragment : Fragment) : Type 0 where
  pub props : All (λ prop. Any (λ pair. (pair.prop ≡ prop) × Contains (key_columns schema.store fragment.table) pair.col) fragment.pairs) (set_key schema.model fragment.set)
  pub cols : All (λ col. Any (λ pair. (pair.col ≡ col) × Contains (set_key schema.model fragment.set) pair.prop) fragment.pairs) (key_columns schema.store fragment.table)

-- V39: no property and no column is written twice
pub record WritesOnce (pairs : List Pair) : Type 0 where
  pub props : AreApart (map (λ pair. pair.prop) pairs)
  pub cols : AreApart (map (λ pair. pair.col) pairs)

-- V30: one end of a link writes exactly the key of the end's type
abbrev pub WritesEndKey : EntityModel → TypeId → List Pair → Type 0
WritesEndKey model type pairs = HoldsEachOnce (key_props model type) (map (λ pair. pair.prop) pairs)

-- V39: no property is written twice at one end, and no column twice at all
pub record WritesLinkOnce (fragment : LinkFragment) : Type 0 where
  pub first : AreApart (map (λ pair. pair.prop) fragment.first)
  pub second : AreApart (map (λ pair. pair.prop) fragment.second)
  pub cols : AreApart (map (λ pair. pair.col) (fragment.first ++ fragment.second))

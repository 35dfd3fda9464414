-- Which properties and columns are joined, and which of them may have no Value condition.
-- Source: the groups of properties and columns of this project's profile, over MSL version 3, ScalarProperty and Condition.
use Rattle.std.specs.Prelude.{◌≡◌, ◌⊎◌, map, Contains, Some}
use Rattle.round_trip.specs.Words.{PropId, TableId, ColId, Value, EntityModel, Prop, Column, Assoc, Constraint, Fragment, Pair, LinkFragment, Cond, CondOn, Schema, At, key_props, key_columns}
use Rattle.round_trip.specs.FailsAt.{IsHostedAt}
use Rattle.edm_types.specs.declared.mapping.CondOn.TheVariants as on
use Rattle.edm_types.specs.declared.mapping.Test.TheVariants.{Equals}
use Rattle.round_trip.specs.soundness.Kinds.{IsEnum}
use Rattle.round_trip.specs.soundness.Lookups.{columns_of}

-- a property, or a column of a table
pub data Member : Type 0 where
  prop : PropId → Member
  col : TableId → ColId → Member

-- a property of the model that is no part of its type's key, or a column of the store that is no part of its table's
abbrev pub IsNoKey : Schema → Member → Type 0
IsNoKey schema (prop p) = (declared : Prop) × At schema.model.props p.index declared × ¬ Contains (key_props schema.model declared.owner) p
IsNoKey schema (col t c) = (column : Column) × At (columns_of schema.store t) c.index column × ¬ Contains (key_columns schema.store t) c

-- the least equivalence over these that holds each property with the column that an entity fragment writes it to
pub data Joined (schema : Schema) : Member → Member → Type 0 where
  pair : (fragment : Fragment) (written : Pair) → Contains schema.mapping.fragments fragment → Contains fragment.pairs written
      → IsNoKey schema (prop written.prop) → IsNoKey schema (col fragment.table written.col) → Joined schema (prop written.prop) (col fragment.table written.col)
  same : (member : Member) → IsNoKey schema member → Joined schema member member
  back : (one other : Member) → Joined schema one other → Joined schema other one
  chain : (one other third : Member) → Joined schema one other → Joined schema other third → Joined schema one third

-- a dependent property of a constraint
pub record IsDependent (model : EntityModel) (p : PropId) : Type 0 where
  pub assoc : Assoc
  pub constraint : Constraint
  pub is_assoc : Contains model.assocs assoc
  pub constrained : assoc.constraint ≡ Some constraint
  pub among : Contains constraint.dependent p

-- a column that hosts a partner's key: a link fragment is hosted at one end, and writes the other end's key to it
pub record HostsPartner (schema : Schema) (t : TableId) (c : ColId) : Type 0 where
  pub fragment : LinkFragment
  pub is_fragment : Contains schema.mapping.links fragment
  pub to_table : fragment.table ≡ t
  pub partner : (IsHostedAt schema t fragment.first × Contains (map (λ written. written.col) fragment.second) c)
      ⊎ (IsHostedAt schema t fragment.second × Contains (map (λ written. written.col) fragment.first) c)

-- the member tells another entity: it is a dependent property, or hosts a partner's key
abbrev pub TellsOther : Schema → Member → Type 0
TellsOther schema (prop p) = IsDependent schema.model p
TellsOther schema (col t c) = HostsPartner schema t c

-- the member tells another entity, or is joined to one that does
abbrev pub IsBarred : Schema → Member → Type 0
IsBarred schema member = (source : Member) × TellsOther schema source × ((source ≡ member) ⊎ Joined schema source member)

-- what a condition of a fragment to this table is on
abbrev pub member_of : TableId → CondOn → Member
member_of table (on.Prop p) = prop p
member_of table (on.Col c) = col table c

-- V38: no Value condition is on a barred member
abbrev pub ComparesNoBarred : Schema → TableId → Cond → Type 0
ComparesNoBarred schema table cond = (constant : Value) → cond.test ≡ Equals constant → ¬ IsBarred schema (member_of table cond.on)

-- V38: no enumeration that is written is barred
abbrev pub WritesNoBarredEnum : Schema → Pair → Type 0
WritesNoBarredEnum schema written = (declared : Prop) → At schema.model.props written.prop.index declared → IsEnum declared.kind → ¬ IsBarred schema (prop written.prop)

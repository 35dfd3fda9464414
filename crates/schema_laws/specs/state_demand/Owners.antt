-- Who owns a table, and which entity or link stands at a row's key.
-- Source: this project's profile of MSL version 3, AssociationSetMapping and MappingFragment: who may write a table, and how a set's key is
-- paired with the primary key.
use Rattle.std.specs.Prelude.{◌≡◌, ◌⊎◌, List, ◌++◌, map, All, Contains}
use Rattle.emc_base.specs.Lists.{AreApart, HoldsEachOnce}
use Rattle.round_trip.specs.Words.{SetId, TypeId, TableId, PropId, Value, EntityModel, EntitySet, Assoc, End, Fragment, Pair, LinkFragment, Schema, Entity, Link, At, IsA, key_props, value_of, key_of, State, entities_in, Writing, EntityWrites, LinkWrites, key_columns}
use Rattle.schema_laws.specs.state_demand.WellWritten.{cols_of}
use Rattle.schema_laws.specs.state_demand.Writings.{entity_writing, link_writing}

-- the properties of pairs
abbrev pub props_in : List Pair → List PropId
props_in pairs = map (λ pair. pair.prop) pairs

-- a type has the key of each type that it is derived from
pub record InheritsKeys (model : EntityModel) : Type 0 where
  pub same : (t u : TypeId) → IsA model t u → key_props model t ≡ key_props model u

-- a fragment of the set that owns a table writes the set's key as the pairing says, and no column twice
pub record IsOfOwner (owner : SetId) (pairing : List Pair) (fragment : Fragment) : Type 0 where
  pub of_set : fragment.set ≡ owner
  pub writes : All (Contains fragment.pairs) pairing
  pub once : AreApart (cols_of fragment.pairs)

-- an end is that of the owner, and these pairs write its key as the pairing says
pub record IsHostAt (owner : SetId) (pairing : List Pair) (end : End) (pairs : List Pair) : Type 0 where
  pub of_set : end.set ≡ owner
  pub writes : All (Contains pairs) pairing

-- a link fragment is hosted at the owner, and writes no column twice
pub record IsHosted (owner : SetId) (pairing : List Pair) (assoc : Assoc) (fragment : LinkFragment) : Type 0 where
  pub host : IsHostAt owner pairing assoc.first fragment.first ⊎ IsHostAt owner pairing assoc.second fragment.second
  pub once : AreApart (cols_of (fragment.first ++ fragment.second))

-- the set owns the table: its key alone is paired with the primary key, column by column, and all fragments to the table write it so
pub record IsOwned (schema : Schema) (t : TableId) (owner : SetId) (pairing : List Pair) : Type 0 where
  pub set : EntitySet
  pub is_set : At schema.model.sets owner.index set
  pub cols : cols_of pairing ≡ key_columns schema.store t
  pub paired : All (Contains (props_in pairing)) (key_props schema.model set.element)
  pub keyed : All (λ pair. Contains (key_props schema.model set.element) pair.prop) pairing
  pub fragments : All (λ fragment. fragment.table ≡ t → IsOfOwner owner pairing fragment) schema.mapping.fragments
  pub links : All (λ fragment. fragment.table ≡ t → (assoc : Assoc) → At schema.model.assocs fragment.assoc.index assoc
      → IsHosted owner pairing assoc fragment) schema.mapping.links

-- the association is the only owner of the table: its link fragment alone writes it, and pairs both keys with the primary key
pub record IsJoinedTo (schema : Schema) (t : TableId) (fragment : LinkFragment) (assoc : Assoc) : Type 0 where
  pub is_fragment : Contains schema.mapping.links fragment
  pub is_assoc : At schema.model.assocs fragment.assoc.index assoc
  pub to_table : fragment.table ≡ t
  pub whole : All (Contains (key_columns schema.store t)) (cols_of (fragment.first ++ fragment.second))
  pub once : AreApart (cols_of (fragment.first ++ fragment.second))
  pub first : HoldsEachOnce (key_props schema.model assoc.first.ty) (props_in fragment.first)
  pub second : HoldsEachOnce (key_props schema.model assoc.second.ty) (props_in fragment.second)
  pub keys : AreApart (key_props schema.model assoc.first.ty) × AreApart (key_props schema.model assoc.second.ty)
  pub fragments : All (λ other. ¬ (other.table ≡ t)) schema.mapping.fragments
  pub links : All (λ other. other.table ≡ t → other ≡ fragment) schema.mapping.links

-- nothing writes the table
pub record IsUnwritten (schema : Schema) (t : TableId) : Type 0 where
  pub fragments : All (λ fragment. ¬ (fragment.table ≡ t)) schema.mapping.fragments
  pub links : All (λ fragment. ¬ (fragment.table ≡ t)) schema.mapping.links

-- a set with a pairing owns the table, or a joined association does, or nothing writes it
abbrev pub HasOwner : Schema → TableId → Type 0
HasOwner schema t = ((owner : SetId) × (pairing : List Pair) × IsOwned schema t owner pairing)
    ⊎ ((fragment : LinkFragment) × (assoc : Assoc) × IsJoinedTo schema t fragment assoc)
    ⊎ IsUnwritten schema t

-- the key of a row that the pairing gives an entity
abbrev pub paired_key : EntityModel → List Pair → Entity → List Value
paired_key model pairing entity = map (λ pair. value_of model entity pair.prop) pairing

-- an entity of the owner stands at the row of this key
pub record StandsAt (schema : Schema) (state : State) (owner : SetId) (pairing : List Pair) (key : List Value) (entity : Entity) : Type 0 where
  pub stands : Contains (entities_in state owner) entity
  pub at_key : paired_key schema.model pairing entity ≡ key

-- the link is hosted at the entity, by one of the ends
abbrev pub IsLinkOf : Schema → SetId → List Pair → Assoc → LinkFragment → Link → Entity → Type 0
IsLinkOf schema owner pairing assoc fragment link entity =
    (IsHostAt owner pairing assoc.first fragment.first × (link.first ≡ key_of schema.model entity))
    ⊎ (IsHostAt owner pairing assoc.second fragment.second × (link.second ≡ key_of schema.model entity))

-- a writing of the entity: by a fragment of the owner that selects it, or by a link that is hosted at it
abbrev pub IsWritingOf : Schema → State → SetId → List Pair → Entity → Writing → Type 0
IsWritingOf schema state owner pairing entity writing =
    ((fragment : Fragment) × (fragment.set ≡ owner) × EntityWrites schema state fragment entity × (writing ≡ entity_writing schema.model fragment entity))
    ⊎ ((fragment : LinkFragment) × (assoc : Assoc) × (link : Link) × LinkWrites schema state fragment assoc link
    × IsLinkOf schema owner pairing assoc fragment link entity × (writing ≡ link_writing schema.model fragment assoc link))

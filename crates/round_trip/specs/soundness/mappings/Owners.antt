-- Where links stand, which sets and associations own a table, and how a set's key is paired with the primary key.
-- Source: the profile's choice of how MSL version 3, AssociationSetMapping, may map an association, and of who may write a table.
use Rattle.std.specs.Prelude.{◌≡◌, ◌≢◌, ◌⊎◌, List, ◌++◌, Contains}
use Rattle.round_trip.specs.Words.{SetId, TableId, AssocId, Assoc, Fragment, Pair, LinkFragment, Schema, At, key_columns}
use Rattle.round_trip.specs.FailsAt.{IsHostedAt}
use Rattle.edm_types.specs.declared.model.Mult.TheVariants.{One}

-- an association is joined where the columns of both ends together are exactly the primary key, and no end is mandatory
pub record IsJoined (schema : Schema) (fragment : LinkFragment) (assoc : Assoc) : Type 0 where
  pub columns : IsHostedAt schema fragment.table (fragment.first ++ fragment.second)
  pub first : assoc.first.mult ≢ One
  pub second : assoc.second.mult ≢ One

-- V36: an association is hosted at its first or second end, or joined
abbrev pub IsPlaced : Schema → LinkFragment → Assoc → Type 0
IsPlaced schema fragment assoc = IsHostedAt schema fragment.table fragment.first ⊎ IsHostedAt schema fragment.table fragment.second ⊎ IsJoined schema fragment assoc

-- an entity fragment of the set writes the table by these pairs
pub record SetWrites (schema : Schema) (table : TableId) (set : SetId) (pairs : List Pair) : Type 0 where
  pub fragment : Fragment
  pub is_fragment : Contains schema.mapping.fragments fragment
  pub to_table : fragment.table ≡ table
  pub of_set : fragment.set ≡ set
  pub pairs_are : pairs ≡ fragment.pairs

-- a link fragment to the table, with its association
pub record LinkMaps (schema : Schema) (table : TableId) (fragment : LinkFragment) (assoc : Assoc) : Type 0 where
  pub is_fragment : Contains schema.mapping.links fragment
  pub is_assoc : At schema.model.assocs fragment.assoc.index assoc
  pub to_table : fragment.table ≡ table

-- an association that is hosted at the set writes the table, and the set's key by these pairs
abbrev pub SetHosts : Schema → TableId → SetId → List Pair → Type 0
SetHosts schema table set pairs = (fragment : LinkFragment) × (assoc : Assoc) × LinkMaps schema table fragment assoc
    × ((IsHostedAt schema table fragment.first × (assoc.first.set ≡ set) × (pairs ≡ fragment.first))
    ⊎ (IsHostedAt schema table fragment.second × (assoc.second.set ≡ set) × (pairs ≡ fragment.second)))

-- the set owns the table: its key is written to the primary key by these pairs, among others
abbrev pub Owns : Schema → TableId → SetId → List Pair → Type 0
Owns schema table set pairs = SetWrites schema table set pairs ⊎ SetHosts schema table set pairs

-- V31: wherever a set owns a table, each column of the primary key is written with the same property of the set's key
abbrev pub PairsKeysAlike : Schema → Type 0
PairsKeysAlike schema = (table : TableId) (set : SetId) (pairs others : List Pair) → Owns schema table set pairs → Owns schema table set others
    → (one other : Pair) → Contains pairs one → Contains others other → one.col ≡ other.col → Contains (key_columns schema.store table) one.col → one.prop ≡ other.prop

-- an entity set, or an association
pub data Owner : Type 0 where
  set : SetId → Owner
  assoc : AssocId → Owner

-- who owns the table: a set, or an association whose links are its rows
abbrev pub IsOwner : Schema → TableId → Owner → Type 0
IsOwner schema table (set s) = (pairs : List Pair) × Owns schema table s pairs
IsOwner schema table (assoc a) = (fragment : LinkFragment) × (joined : Assoc) × LinkMaps schema table fragment joined
    × IsJoined schema fragment joined × (fragment.assoc ≡ a)

-- V32: a table has at most one owner
abbrev pub HasOneOwner : Schema → Type 0
HasOneOwner schema = (table : TableId) (one other : Owner) → IsOwner schema table one → IsOwner schema table other → one ≡ other

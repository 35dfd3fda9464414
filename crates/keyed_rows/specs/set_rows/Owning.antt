-- Where the parts of a set's key stand in a table that the set owns.
-- Source: this project's profile of MSL version 3, MappingFragment and AssociationSetMapping: how a set's key is paired with the primary key.
use Rattle.std.specs.Prelude.{◌≡◌, ℕ, List, map, Contains}
use Rattle.std.specs.List.{AllZip}
use Rattle.round_trip.specs.Words.{SetId, TableId, PropId, ColId, Value, Pair, Schema, At, IsWritten, value_beside}
use Rattle.round_trip.specs.soundness.Lookups.{set_key}
use Rattle.round_trip.specs.soundness.mappings.Owners.{IsOwner, set}
use Rattle.schema_laws.specs.state_demand.Owners.{IsOwned, props_in}

-- the column stands at a place where the property does
abbrev pub IsBeside : List PropId → List ColId → PropId → ColId → Type 0
IsBeside props cols prop col = (place : ℕ) × At props place prop × At cols place col

-- the set owns the table: one of its fragments, or a fragment of links that are hosted at the set, writes it
abbrev pub IsOwnedBy : Schema → TableId → SetId → Type 0
IsOwnedBy schema t s = IsOwner schema t (set s)

-- the set owns the table, which is written, and pairs its key with the primary key so
pub record Owning (schema : Schema) (t : TableId) (s : SetId) : Type 0 where
  pub pairing : List Pair
  pub written : IsWritten schema.mapping t
  pub owned : IsOwned schema t s pairing

-- the properties that are paired with the columns of the primary key, in the order of these
abbrev pub IsPairing : Schema → TableId → SetId → List PropId → Type 0
IsPairing schema t s props = (own : Owning schema t s) × (props ≡ props_in own.pairing)

-- the columns with which the properties of the set's key are paired, in the order of these
abbrev pub IsKeyOrder : Schema → TableId → SetId → List ColId → Type 0
IsKeyOrder schema t s cols = (own : Owning schema t s) × AllZip (λ prop col. Contains own.pairing (record { prop = prop; col = col })) (set_key schema.model s) cols

-- the primary key of rows at a key of the set
abbrev pub IsTableKey : Schema → TableId → SetId → List Value → List Value → Type 0
IsTableKey schema t s key parts = (own : Owning schema t s) × (parts ≡ map (λ pair. value_beside pair.prop (set_key schema.model s) key) own.pairing)

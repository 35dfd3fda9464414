-- How the key of the set that owns a table is paired with the table's primary key.
-- Source: the profile's choice that a set pairs its key alike wherever it owns a table (V31), over MSL version 3, ScalarProperty and EndProperty.
use Rattle.std.specs.Prelude.{◌≡◌, List, [], length, Contains}
use Rattle.std.specs.List.{AllZip}
use Rattle.round_trip.specs.Words.{SetId, PropId, TableId, ColId, Pair, Schema, At, key_columns}
use Rattle.round_trip.specs.soundness.Lookups.{set_key}
use Rattle.round_trip.specs.soundness.mappings.Owners.{IsOwner, Owns, set}

-- a property of the set's key that is written to the column wherever the set owns the table
pub record IsPairedWith (schema : Schema) (t : TableId) (s : SetId) (col : ColId) (prop : PropId) : Type 0 where
  pub of_key : Contains (set_key schema.model s) prop
  pub written : (pairs : List Pair) → Owns schema t s pairs → Contains pairs (record { prop = prop; col = col })

-- what is told of a table: where a set owns it, the property that is paired with each column of the primary key, in their order; else nothing
pub record TellsPairing (schema : Schema) (t : TableId) (pairing : List PropId) : Type 0 where
  pub owned : (s : SetId) → IsOwner schema t (set s) → AllZip (IsPairedWith schema t s) (key_columns schema.store t) pairing
  pub other : ((s : SetId) → ¬ IsOwner schema t (set s)) → pairing ≡ []

-- it is told of each table
pub record TellPairings (schema : Schema) (pairings : List (List PropId)) : Type 0 where
  pub size : length pairings ≡ length schema.store.tables
  pub each : (t : TableId) (pairing : List PropId) → At pairings t.index pairing → TellsPairing schema t pairing

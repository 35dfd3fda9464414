-- What owns a table, and that nothing else does.
-- Source: this project's profile of MSL version 3, AssociationSetMapping and MappingFragment: who may write a table.
use Rattle.std.specs.Prelude.{◌≡◌, List}
use Rattle.round_trip.specs.Words.{SetId, TableId, Assoc, LinkFragment, Pair, Schema}
use Rattle.schema_laws.specs.state_demand.Owners.{IsJoinedTo, IsOwned}

-- one set at most owns the table, with one pairing
abbrev pub IsOwnedOnce : Schema → TableId → Type 0
IsOwnedOnce schema t = (owner other : SetId) (pairing others : List Pair) → IsOwned schema t owner pairing → IsOwned schema t other others
    → (owner ≡ other) × (pairing ≡ others)

-- no set owns it together with an association
abbrev pub IsOwnedAlone : Schema → TableId → Type 0
IsOwnedAlone schema t = (owner : SetId) (pairing : List Pair) (fragment : LinkFragment) (assoc : Assoc) → IsOwned schema t owner pairing
    → ¬ IsJoinedTo schema t fragment assoc

-- one association at most owns it, by one link fragment
abbrev pub IsJoinedOnce : Schema → TableId → Type 0
IsJoinedOnce schema t = (fragment other : LinkFragment) (assoc joins : Assoc) → IsJoinedTo schema t fragment assoc → IsJoinedTo schema t other joins
    → (fragment ≡ other) × (assoc ≡ joins)

-- Demand is local to rows, for every sound schema.
use Rattle.std.proofs.Common.{inl, inr, List}
use Rattle.round_trip.specs.Words.{SetId, TableId, Assoc, LinkFragment, Pair, Schema, State, IsLegal}
use Rattle.round_trip.specs.soundness.mappings.Mappings.{IsSoundSchema}
use Rattle.schema_laws.specs.state_demand.Owners.{HasOwner, IsJoinedTo, IsOwned}
use Rattle.schema_laws.proofs.state_demand.owners.Joined.{local_link, one_link, writes_row}
use Rattle.schema_laws.proofs.state_demand.owners.Owners.{local, one, whole}
use Rattle.schema_laws.specs.sound_demand.Local.{HasLocalDemand, IsLocal, IsLocalToLinks}
use Rattle.schema_laws.proofs.sound_demand.Keys.{inherits_keys}
use Rattle.schema_laws.proofs.sound_demand.owners.Owned.{has_owner}

module _ (schema : Schema) (sound : IsSoundSchema schema) (state : State) (legal : IsLegal schema.model state) (t : TableId) where
  pub is_local : (owner : SetId) (pairing : List Pair) → IsOwned schema t owner pairing → IsLocal schema state t owner pairing
  is_local owner pairing owned =
      let inherits = inherits_keys schema.model sound.model in
      record {
        local = local schema inherits t owner pairing owned state legal;
        one = one schema inherits t owner pairing owned state legal;
        whole = whole schema inherits t owner pairing owned state legal;
      }

  pub is_local_to_links : (fragment : LinkFragment) (assoc : Assoc) → IsJoinedTo schema t fragment assoc → IsLocalToLinks schema state t fragment assoc
  is_local_to_links fragment assoc joined = record {
    local = local_link schema t fragment assoc joined state;
    writes = writes_row schema t fragment assoc joined state;
    one = one_link schema t fragment assoc joined state legal;
  }

  pub local_demand : HasLocalDemand schema state t
  local_demand = by (has_owner schema sound t)
    where
      by : HasOwner schema t → HasLocalDemand schema state t
      by (inl (owner, pairing, owned)) = inl (owner, pairing, owned, is_local owner pairing owned)
      by (inr (inl (fragment, assoc, joined))) = inr (inl (fragment, assoc, joined, is_local_to_links fragment assoc joined))
      by (inr (inr unwritten)) = inr (inr unwritten)

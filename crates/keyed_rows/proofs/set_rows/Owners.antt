-- Whether a set owns a table, by what the cells tell and by a row that stands at a key of the set.
use Rattle.std.proofs.Common.{◌≡◌, ◌↔◌, inl, inr, ◌<◌, List, length, Option, Some, None, ap, subst, sym}
use Rattle.emc_base.proofs.Lists.{item_at}
use Rattle.round_trip.specs.Words.{SetId, AssocId, TableId, Fragment, LinkFragment, Pair, Schema, IsWritten}
use Rattle.round_trip.specs.soundness.mappings.Mappings.{IsSoundSchema}
use Rattle.round_trip.specs.soundness.mappings.Owners.{Owns}
use Rattle.round_trip.specs.soundness.mappings.Owners as sound_owner
use Rattle.schema_laws.specs.state_demand.Owners.{IsOwned}
use Rattle.schema_laws.proofs.state_demand.lists.Lists.{any_of}
use Rattle.schema_laws.proofs.sound_demand.owners.OneOwner.{one_owner, owned_or_joined}
use Rattle.schema_laws.proofs.sound_demand.owners.Owned.{joined_to, one_set, owned}
use Rattle.table_owners.specs.declared.table_writers.writer.Owner.{Owner}
use Rattle.table_owners.specs.declared.table_writers.writer.Owner.TheVariants as told
use Rattle.table_owners.specs.Owners.{TellOwners, TellsOwner}
use Rattle.keyed_rows.specs.set_rows.Owning.{IsOwnedBy, Owning}

module _ (schema : Schema) (sound : IsSoundSchema schema) (t : TableId) (s : SetId) where
  -- a table that a set owns is written
  is_written : (pairs : List Pair) → Owns schema t s pairs → IsWritten schema.mapping t
  is_written pairs (inl writes) = inl (any_of (λ (f : Fragment). f.table ≡ t) schema.mapping.fragments writes.fragment writes.is_fragment writes.to_table)
  is_written pairs (inr (fragment, assoc, maps, hosts)) = inr (any_of (λ (f : LinkFragment). f.table ≡ t) schema.mapping.links fragment maps.is_fragment maps.to_table)

  -- and its key is paired with the primary key
  pub owning : IsOwnedBy schema t s → Owning schema t s
  owning is = let found = owned schema sound t s is.0 is.1 in record { pairing = found.0; written = is_written is.0 is.1; owned = found.1 }

  -- no association owns it too
  pub not_joined : (a : AssocId) → sound_owner.IsOwner schema t (sound_owner.assoc a) → (pairing : List Pair) → IsOwned schema t s pairing → ⊥
  not_joined a (fragment, joined, maps, is, same) pairing owns = owned_or_joined schema sound t s pairing fragment joined owns (joined_to schema sound t fragment joined maps is)

  -- a set that owns it is this one
  pub same_set : (u : SetId) → IsOwnedBy schema t u → IsOwnedBy schema t s → u ≡ s
  same_set u other is = one_set schema sound t u s other.0 is.0 other.1 is.1

  -- where a row stands at a key of the set, the set owns its table
  pub owned_by : (found : Option Owner) → TellsOwner schema t found → (pairing : List Pair) → IsWritten schema.mapping t → IsOwned schema t s pairing → IsOwnedBy schema t s
  owned_by None tells pairing written owns = absurd (tells written)
  owned_by (Some (told.Set u)) tells pairing written owns =
      let other = owned schema sound t u tells.0 tells.1 in
      let same : u ≡ s = (one_owner schema sound t u s other.0 pairing other.1 owns written).0 in
      subst (IsOwnedBy schema t) same tells
  owned_by (Some (told.Assoc a)) tells pairing written owns = absurd (not_joined a tells pairing owns)

  -- what the cells tell of the table is this set just where it does
  pub told_set : (found : Option Owner) → TellsOwner schema t found → (found ≡ Some (told.Set s)) ↔ IsOwnedBy schema t s
  told_set None tells = (λ same. absurd (let never : ⊥ = cc in never), λ is. absurd (tells (is_written is.0 is.1)))
  told_set (Some (told.Set u)) tells =
      (λ same. let is : u ≡ s = cc in subst (IsOwnedBy schema t) is tells, λ is. ap (λ v. Some (told.Set v)) (same_set u tells is))
  told_set (Some (told.Assoc a)) tells =
      (λ same. absurd (let never : ⊥ = cc in never), λ is. absurd (not_joined a tells (owning is).pairing (owning is).owned))

-- what the cells tell of a table
pub told_at : (schema : Schema) (owners : List (Option Owner)) → TellOwners schema owners → (t : TableId) → t.index < length schema.store.tables
    → (found : Option Owner) × TellsOwner schema t found
told_at schema owners tells t inside =
    let found = item_at owners t.index (subst (λ n. t.index < n) (sym tells.size) inside) in
    (found.0, tells.each t found.0 found.1)

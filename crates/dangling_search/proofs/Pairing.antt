-- The pairing that the cells tell of a table is that by which a set owns it.
use Rattle.std.proofs.Common.{◌≡◌, ◌⊎◌, inl, inr, List, ◌++◌, All, Contains, sym, subst}
use Rattle.std.specs.List.{AllZip}
use Rattle.std.proofs.lemmas.List.Elements.{All-contains, Contains-append_left, Contains-append_right}
use Rattle.emc_base.specs.Lists.{AreApart}
use Rattle.emc_base.proofs.Lists.{all_from_members}
use Rattle.round_trip.specs.Words.{SetId, TableId, PropId, Assoc, Fragment, LinkFragment, Pair, Schema}
use Rattle.round_trip.specs.soundness.mappings.Mappings.{IsSoundSchema}
use Rattle.round_trip.specs.soundness.mappings.Owners.{Owns}
use Rattle.schema_laws.specs.state_demand.Owners.{IsHostAt, IsHosted, IsOfOwner, IsOwned, props_in}
use Rattle.schema_laws.specs.state_demand.WellWritten.{cols_of}
use Rattle.table_owners.specs.Pairings.{IsPairedWith, TellsPairing}
use Rattle.schema_laws.proofs.state_demand.owners.Owning.{hosted_at}
use Rattle.schema_laws.proofs.state_demand.owners.Told.{told_props}
use Rattle.dangling_search.specs.Found.{IsOwnedBy}

module _ (schema : Schema) (sound : IsSoundSchema schema) (t : TableId) (s : SetId) (pairing : List Pair) (owned : IsOwned schema t s pairing)
    (props : List PropId) (told : TellsPairing schema t props) where
  -- column by column they are paired as the cells tell
  paired : IsOwnedBy schema t s → AllZip (IsPairedWith schema t s) (cols_of pairing) props
  paired is = subst (λ cols. AllZip (IsPairedWith schema t s) cols props) (sym owned.cols) (told.owned s is)

  -- pairs that hold both the pairing and what is told
  by_pairs : (is : IsOwnedBy schema t s) → (pairs : List Pair) → AreApart (cols_of pairs) → ((pair : Pair) → Contains is.0 pair → Contains pairs pair)
      → All (Contains pairs) pairing
      → props ≡ props_in pairing
  by_pairs is pairs once wide all =
      told_props pairs once (IsPairedWith schema t s) (λ col prop one. wide (record { prop = prop; col = col }) (one.written is.0 is.1)) pairing all props (paired is)

  pairs_at : (assoc : Assoc) (fragment : LinkFragment) → IsHosted s pairing assoc fragment → All (Contains (fragment.first ++ fragment.second)) pairing
  pairs_at assoc fragment hosted = all_from_members (Contains (fragment.first ++ fragment.second)) pairing (λ pair has. by pair has hosted.host)
    where
      by : (pair : Pair) → Contains pairing pair → IsHostAt s pairing assoc.first fragment.first ⊎ IsHostAt s pairing assoc.second fragment.second
          → Contains (fragment.first ++ fragment.second) pair
      by pair has (inl host) = Contains-append_left fragment.first fragment.second pair (All-contains (Contains fragment.first) pairing pair host.writes has)
      by pair has (inr host) = Contains-append_right fragment.first fragment.second pair (All-contains (Contains fragment.second) pairing pair host.writes has)

  by_owner : (pairs : List Pair) → Owns schema t s pairs → props ≡ props_in pairing
  by_owner pairs (inl writes) =
      let P : Fragment → Type 0 = λ f. f.table ≡ t → IsOfOwner s pairing f in
      let of_owner : IsOfOwner s pairing writes.fragment = All-contains P schema.mapping.fragments writes.fragment owned.fragments writes.is_fragment writes.to_table in
      by_pairs (pairs, inl writes) writes.fragment.pairs of_owner.once (λ pair has. subst (λ (ps : List Pair). Contains ps pair) writes.pairs_are has) of_owner.writes
  by_owner pairs (inr (fragment, assoc, maps, inl (at, is_set, pairs_are))) =
      let hosted = hosted_at schema t s pairing owned fragment assoc maps.is_fragment maps.is_assoc maps.to_table in
      by_pairs (pairs, inr (fragment, assoc, maps, inl (at, is_set, pairs_are))) (fragment.first ++ fragment.second) hosted.once
      (λ pair has. Contains-append_left fragment.first fragment.second pair (subst (λ (ps : List Pair). Contains ps pair) pairs_are has)) (pairs_at assoc fragment hosted)
  by_owner pairs (inr (fragment, assoc, maps, inr (at, is_set, pairs_are))) =
      let hosted = hosted_at schema t s pairing owned fragment assoc maps.is_fragment maps.is_assoc maps.to_table in
      by_pairs (pairs, inr (fragment, assoc, maps, inr (at, is_set, pairs_are))) (fragment.first ++ fragment.second) hosted.once
      (λ pair has. Contains-append_right fragment.first fragment.second pair (subst (λ (ps : List Pair). Contains ps pair) pairs_are has)) (pairs_at assoc fragment hosted)

  -- the properties that are told of the table are those of the pairing
  pub props_are : IsOwnedBy schema t s → props ≡ props_in pairing
  props_are is = by_owner is.0 is.1

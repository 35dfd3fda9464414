-- In a sound schema an association set is told as joined exactly where its link fragment alone writes a table, with both keys as the primary key.
use Rattle.std.proofs.Common.{◌≡◌, ◌≢◌, inl, inr, ◌<◌, List, Bool, true, false, if◌then◌else◌, length, Contains, refl, sym, subst, arith}
use Rattle.std.proofs.lemmas.List.Elements.{All-contains}
use Rattle.std.proofs.lemmas.Option.{slice_get_within}
use Rattle.emc_base.proofs.Lists.{item_at}
use Rattle.emc_base.proofs.Mapped.{contains_at}
use Rattle.round_trip.specs.Words.{Assoc, AssocId, At, LinkFragId, LinkFragment, Pair, Schema, SetId, TableId}
use Rattle.round_trip.specs.FailsAt.{IsHostedAt}
use Rattle.round_trip.specs.soundness.mappings.Mappings.{IsSoundSchema}
use Rattle.round_trip.specs.soundness.mappings.Owners.{LinkMaps, Owns}
use Rattle.schema_laws.specs.state_demand.Owners.{IsJoinedTo}
use Rattle.schema_laws.proofs.state_demand.lists.Lists.{same_by_key}
use Rattle.schema_laws.proofs.state_demand.owners.Owners.{pairs_from_map}
use Rattle.schema_laws.proofs.sound_demand.Fitting.{sound_link}
use Rattle.schema_laws.proofs.sound_demand.owners.OneOwner.{owned_or_joined}
use Rattle.schema_laws.proofs.sound_demand.owners.Owned.{joined_to, owned}
use Rattle.table_owners.specs.declared.places.LinkPlace.{LinkPlace}
use Rattle.table_owners.specs.declared.places.LinkPlace.TheVariants as place
use Rattle.table_owners.specs.Places.{IsMappedBy, TellPlaces, TellsPlace}

module _ (schema : Schema) (sound : IsSoundSchema schema) where
  -- an association set is mapped by one link fragment
  one_fragment : (one other : LinkFragment) → Contains schema.mapping.links one → Contains schema.mapping.links other → one.assoc ≡ other.assoc → one ≡ other
  one_fragment one other has too same =
      let mapped : LinkFragment → AssocId = λ fragment. fragment.assoc in
      same_by_key mapped schema.mapping.links one other (pairs_from_map (λ (a b : AssocId). a ≢ b) mapped schema.mapping.links sound.mapping.assocs) has too same

  module _ (t : TableId) (fragment : LinkFragment) (assoc : Assoc) (joined : IsJoinedTo schema t fragment assoc) where
    maps : LinkMaps schema t fragment assoc
    maps = record { is_fragment = joined.is_fragment; is_assoc = joined.is_assoc; to_table = joined.to_table }

    -- the table is no set's
    no_owner : (owner : SetId) (pairs : List Pair) → ¬ Owns schema t owner pairs
    no_owner owner pairs owns =
        let found = owned schema sound t owner pairs owns in
        owned_or_joined schema sound t owner found.0 fragment assoc found.1 joined

    -- neither end's columns are the primary key
    at_no_end : (first_hosts : Bool) → ¬ IsHostedAt schema fragment.table (if first_hosts then fragment.first else fragment.second)
    at_no_end true hosted =
        let here : IsHostedAt schema t fragment.first = subst (λ u. IsHostedAt schema u fragment.first) joined.to_table hosted in
        no_owner assoc.first.set fragment.first (inr (fragment, assoc, maps, inl (here, refl, refl)))
    at_no_end false hosted =
        let here : IsHostedAt schema t fragment.second = subst (λ u. IsHostedAt schema u fragment.second) joined.to_table hosted in
        no_owner assoc.second.set fragment.second (inr (fragment, assoc, maps, inr (here, refl, refl)))

    -- what is told of its association set
    told_as : (told : LinkPlace) → TellsPlace schema fragment.assoc assoc told → (number : LinkFragId) × (told ≡ place.Joined number)
    told_as (place.Hosted first_hosts number) (one, mapped, hosted) =
        let same : one ≡ fragment = one_fragment one fragment (contains_at schema.mapping.links number.index one mapped.is_fragment) joined.is_fragment mapped.of_assoc in
        let P : LinkFragment → Type 0 = λ f. IsHostedAt schema f.table (if first_hosts then f.first else f.second) in
        absurd (at_no_end first_hosts (subst P same hosted))
    told_as (place.Joined number) by = (number, refl)
    told_as place.Unmapped unmapped =
        absurd (All-contains (λ (one : LinkFragment). one.assoc ≢ fragment.assoc) schema.mapping.links fragment unmapped.unmapped joined.is_fragment refl)
    told_as place.Constraint constrained = absurd (constrained (sound_link schema sound fragment joined.is_fragment assoc joined.is_assoc).independent)

  module _ (places : List LinkPlace) (tell : TellPlaces schema places) where
    pub joined_told : (t : TableId) (fragment : LinkFragment) (assoc : Assoc) → IsJoinedTo schema t fragment assoc
        → (number : LinkFragId) × At places fragment.assoc.index (place.Joined number)
    joined_told t fragment assoc joined =
        let size : length places ≡ length schema.model.assocs = tell.size in
        let known : fragment.assoc.index < length schema.model.assocs = slice_get_within schema.model.assocs fragment.assoc.index assoc joined.is_assoc in
        let there = item_at places fragment.assoc.index (omega (arith, size, known)) in
        let told = told_as t fragment assoc joined there.0 (tell.each fragment.assoc assoc there.0 joined.is_assoc there.1) in
        (told.0, subst (λ (found : LinkPlace). At places fragment.assoc.index found) told.1 there.1)

    pub told_joined : (a : AssocId) (number : LinkFragId) → At places a.index (place.Joined number)
        → (t : TableId) × (fragment : LinkFragment) × (assoc : Assoc) × IsJoinedTo schema t fragment assoc × (fragment.assoc ≡ a)
    told_joined a number told =
        let size : length places ≡ length schema.model.assocs = tell.size in
        let known : a.index < length places = slice_get_within places a.index (place.Joined number) told in
        let assoc = item_at schema.model.assocs a.index (omega (arith, size, known)) in
        let tells = tell.each a assoc.0 (place.Joined number) assoc.1 told in
        let fragment : LinkFragment = tells.0 in
        let mapped : IsMappedBy schema a assoc.0 number fragment = tells.1 in
        let P : AssocId → Type 0 = λ id. At schema.model.assocs id.index assoc.0 in
        let maps_it : LinkMaps schema fragment.table fragment assoc.0 = record {
          is_fragment = contains_at schema.mapping.links number.index fragment mapped.is_fragment;
          is_assoc = subst P (sym mapped.of_assoc) assoc.1;
          to_table = refl;
        } in
        (fragment.table, fragment, assoc.0, joined_to schema sound fragment.table fragment assoc.0 maps_it tells.2.joined, mapped.of_assoc)

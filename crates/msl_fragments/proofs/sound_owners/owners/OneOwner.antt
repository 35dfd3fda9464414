-- V32 kept: each table has one owner. And V31 kept, as far as it is said of the writers.
use Rattle.std.proofs.Common.{◌≡◌, inl, inr, ℕ, ◌<◌, Contains, refl, sym, ap, subst, ◌∙◌}
use Rattle.std.proofs.lemmas.List.{length-map}
use Rattle.std.proofs.lemmas.Option.{slice_get_within}
use Rattle.emc_base.specs.Lists.{At}
use Rattle.emc_base.proofs.Lists.{item_at}
use Rattle.graphs.proofs.base_chains.orders.Orders.{place_of_member}
use Rattle.layouts.specs.declared.rule.Rule.TheVariants.{OneOwner, OnePairing}
use Rattle.round_trip.specs.Words.{EntityModel, StoreModel, TableId}
use Rattle.round_trip.specs.soundness.mappings.Owners as sound
use Rattle.table_owners.specs.table_writers.Writers.{HasOtherOwner, PairsOtherwise}
use Rattle.table_owners.specs.declared.table_writers.writer.Owner.{Owner}
use Rattle.table_owners.specs.declared.table_writers.writer.Owner.TheVariants.{Set, Assoc}
use Rattle.table_owners.specs.declared.table_writers.writer.Writer.{Writer}
use Rattle.table_owners.proofs.table_writers.Agreeing.{one_owner}
use Rattle.layouts.proofs.rule_places.FaultPlaces.{fault_at}
use Rattle.msl_rules.specs.declared.msl_lists.raw.RawMapping.{RawMapping}
use Rattle.msl_rules.specs.KeepsMapping.{KeepsMappingRules}
use Rattle.msl_rules.specs.MappingMeaning.{schema_in}
use Rattle.msl_rules.specs.OwnerRules.{PlacedWriter, writers_in}
use Rattle.msl_fragments.proofs.sound_owners.owners.Writing.{all_writers, by_assoc, by_set, joined_writes, set_writes}

-- an owner, as the list of writers has it
abbrev owner_of : sound.Owner → Owner
owner_of (sound.set s) = Set s
owner_of (sound.assoc a) = Assoc a

-- which tells owners apart
same_owner : (one other : sound.Owner) → owner_of one ≡ owner_of other → one ≡ other
same_owner (sound.set s) (sound.set t) same = let is : s ≡ t = cc in ap sound.set is
same_owner (sound.set s) (sound.assoc a) same = absurd cc
same_owner (sound.assoc a) (sound.set s) same = absurd cc
same_owner (sound.assoc a) (sound.assoc b) same = let is : a ≡ b = cc in ap sound.assoc is

module _ (model : EntityModel) (store : StoreModel) (raw : RawMapping) where
  -- an owner of a table is a writer of it
  owner_writes : (table : TableId) (one : sound.Owner) → sound.IsOwner (schema_in model store raw) table one
      → (writer : Writer) × Contains (all_writers model store raw) writer × (writer.table ≡ table) × (writer.owner ≡ owner_of one)
  owner_writes table (sound.set s) (pairs, owns) = (by_set model store raw table s pairs, set_writes model store raw table s pairs owns, refl, refl)
  owner_writes table (sound.assoc a) (fragment, assoc, maps, joined, is) = (
    by_assoc model store raw table fragment assoc maps,
    joined_writes model store raw table fragment assoc maps joined,
    maps.to_table,
    ap Assoc is,
  )

  -- the place of a writer that stands in the list
  placed_at : (k : ℕ) (writer : Writer) → At (all_writers model store raw) k writer → (one : PlacedWriter) × At (writers_in model store raw) k one
  placed_at k writer here = item_at (writers_in model store raw) k
      (subst (λ n. k < n) (length-map (writers_in model store raw) (λ other. other.writer)) (slice_get_within (all_writers model store raw) k writer here))

  module _ (keeps : KeepsMappingRules model store raw) where
    -- no writer pairs the key otherwise than before
    pub never_otherwise : (k : ℕ) → ¬ PairsOtherwise (all_writers model store raw) k
    never_otherwise k broken =
        let one = placed_at k broken.later broken.here in
        keeps.keeps (fault_at OnePairing one.0.place) (inr (inr (inr (inr (inr (inr (inl (k, one.0, one.1, broken, (refl, refl)))))))))

    -- and none is a second owner
    never_two : (k : ℕ) → ¬ HasOtherOwner (all_writers model store raw) k
    never_two k broken =
        let one = placed_at k broken.later broken.here in
        keeps.keeps (fault_at OneOwner one.0.place) (inr (inr (inr (inr (inr (inr (inr (k, one.0, one.1, broken, (refl, refl)))))))))

    -- V32
    pub owners_alike : sound.HasOneOwner (schema_in model store raw)
    owners_alike table one other owns owns_too =
        let first = owner_writes table one owns in
        let second = owner_writes table other owns_too in
        let writers = all_writers model store raw in
        same_owner one other (sym first.3
        ∙ one_owner writers never_two first.1.0 second.1.0 first.0 second.0 (place_of_member writers first.0 first.1) (place_of_member writers second.0 second.1)
        (first.2 ∙ sym second.2)
        ∙ second.3)

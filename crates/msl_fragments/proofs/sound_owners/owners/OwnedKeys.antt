-- Where a set owns a table, it writes its own key to the primary key, and no column twice.
use Rattle.std.proofs.Common.{◌≡◌, ⊎_elim, ℕ, List, Contains, Some, sym, ap, subst, ◌∙◌}
use Rattle.emc_base.specs.Lists.{At}
use Rattle.emc_base.proofs.Lists.{at_once}
use Rattle.round_trip.specs.Words.{Assoc, End, EntityModel, LinkFragment, Pair, PropId, SetId, StoreModel, TableId, key_columns, key_props}
use Rattle.round_trip.specs.soundness.models.Constraints.{IsSoundEnd}
use Rattle.round_trip.specs.soundness.Lookups.{set_key}
use Rattle.round_trip.specs.soundness.mappings.Owners.{Owns, SetHosts, SetWrites}
use Rattle.round_trip.proofs.Lookups.{end_set_key}
use Rattle.msl_rules.specs.declared.msl_lists.raw.RawMapping.{RawMapping}
use Rattle.msl_rules.specs.Found.{end_pairs, role_end}
use Rattle.msl_rules.specs.KeepsMapping.{KeepsMappingRules}
use Rattle.msl_rules.specs.MappingMeaning.{schema_in}
use Rattle.msl_fragments.proofs.sound_owners.ColumnNames.{TellsByColumn}
use Rattle.msl_fragments.proofs.sound_owners.Fragments.{IsLinkOf, fragment_of, link_of}
use Rattle.msl_fragments.proofs.sound_owners.kept.KeptFragments.{WritesOwnKey, fragment_key}
use Rattle.msl_fragments.proofs.sound_owners.kept.KeptLinks.{end_key}
use Rattle.msl_fragments.proofs.sound_owners.SetKeys.{first_role, second_role, sound_assoc}

module _ (model : EntityModel) (store : StoreModel) (raw : RawMapping) (keeps : KeepsMappingRules model store raw) where
  -- the key of the set is written to the primary key of the table
  abbrev Writes : TableId → SetId → List Pair → Type 0
  Writes table set pairs = WritesOwnKey (set_key model set) (key_columns store table) pairs

  -- by a fragment of the set
  by_fragment : (table : TableId) (set : SetId) (pairs : List Pair) → SetWrites (schema_in model store raw) table set pairs → Writes table set pairs
  by_fragment table set pairs writes =
      let fragment = writes.fragment in
      subst (Writes table set) (sym writes.pairs_are)
      (subst (λ s. Writes table s fragment.pairs) writes.of_set
      (subst (λ t. Writes t fragment.set fragment.pairs) writes.to_table
      (fragment_key model store raw keeps fragment (fragment_of model store raw fragment writes.is_fragment))))

  module _ (fragment : LinkFragment) (from : IsLinkOf model store raw fragment) where
    -- by an end of an association
    by_end : (end : End) → role_end from.meant.assoc end.role ≡ Some end → IsSoundEnd model end → (table : TableId) (set : SetId) (pairs : List Pair)
        → end.set ≡ set → end_pairs model store from.meant.t end from.site.link.ends ≡ pairs → Writes table set pairs
    by_end end own good table set pairs is_set are =
        let only = end_key model store raw keeps fragment from end own in
        let key_is : key_props model end.ty ≡ set_key model set = end_set_key model keeps.sound_model end good ∙ ap (set_key model) is_set in
        let P : List Pair → Pair → Type 0 = λ pairs pair. Contains pairs pair in
        record {
          once = subst TellsByColumn are only.once;
          of_key = λ pair has col.
              let Q : List PropId → Type 0 = λ key. Contains key pair.prop in
              subst Q key_is (only.of_key pair (subst (λ pairs. P pairs pair) (sym are) has));
        }

    -- the association of the mapping is that of its links
    assoc_is : (assoc : Assoc) → At model.assocs fragment.assoc.index assoc → from.meant.assoc ≡ assoc
    assoc_is assoc here =
        let P : ℕ → Type 0 = λ a. At model.assocs a from.meant.assoc in
        at_once model.assocs fragment.assoc.index from.meant.assoc assoc
        (subst P (ap (λ (fragment : LinkFragment). fragment.assoc.index) from.meant.is) from.meant.is_assoc) here

    -- by the first end, and by the second
    first_writes : (table : TableId) (set : SetId) (pairs : List Pair) (assoc : Assoc) → At model.assocs fragment.assoc.index assoc
        → assoc.first.set ≡ set → pairs ≡ fragment.first → Writes table set pairs
    first_writes table set pairs assoc here is_set are =
        by_end from.meant.assoc.first (first_role model keeps.sound_model from.meant.a from.meant.assoc from.meant.is_assoc)
        (sound_assoc model keeps.sound_model from.meant.a from.meant.assoc from.meant.is_assoc).first table set pairs
        (ap (λ (assoc : Assoc). assoc.first.set) (assoc_is assoc here) ∙ is_set) (ap (λ (fragment : LinkFragment). fragment.first) from.meant.is ∙ sym are)

    second_writes : (table : TableId) (set : SetId) (pairs : List Pair) (assoc : Assoc) → At model.assocs fragment.assoc.index assoc
        → assoc.second.set ≡ set → pairs ≡ fragment.second → Writes table set pairs
    second_writes table set pairs assoc here is_set are =
        by_end from.meant.assoc.second (second_role model keeps.sound_model from.meant.a from.meant.assoc from.meant.is_assoc)
        (sound_assoc model keeps.sound_model from.meant.a from.meant.assoc from.meant.is_assoc).second table set pairs
        (ap (λ (assoc : Assoc). assoc.second.set) (assoc_is assoc here) ∙ is_set) (ap (λ (fragment : LinkFragment). fragment.second) from.meant.is ∙ sym are)

  -- by a hosted association
  by_host : (table : TableId) (set : SetId) (pairs : List Pair) → SetHosts (schema_in model store raw) table set pairs → Writes table set pairs
  by_host table set pairs (fragment, assoc, maps, either) =
      let from = link_of model store raw fragment maps.is_fragment in
      ⊎_elim
      (λ first. first_writes fragment from table set pairs assoc maps.is_assoc first.1 first.2)
      (λ second. second_writes fragment from table set pairs assoc maps.is_assoc second.1 second.2)
      either

  -- by what it owns the table
  pub owned_key : (table : TableId) (set : SetId) (pairs : List Pair) → Owns (schema_in model store raw) table set pairs → Writes table set pairs
  owned_key table set pairs = ⊎_elim (by_fragment table set pairs) (by_host table set pairs)

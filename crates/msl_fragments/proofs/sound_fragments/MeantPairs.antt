-- What the pairs of a MappingFragment mean where the rules are kept. V29, V30, V38, V39; and their ids.
use Rattle.std.proofs.Common.{◌≡◌, ◌≢◌, inl, inr, ℕ, List, [], ◌∷◌, All, Contains, Option, Some, codes, option_map, refl, ap, ◌∙◌}
use Rattle.emc_base.specs.Lists.{At}
use Rattle.emc_base.proofs.Lists.{all_from_members}
use Rattle.emc_base.proofs.Numbered.{all_pairs_map}
use Rattle.graphs.proofs.base_chains.orders.Orders.{place_of_member}
use Rattle.json_form.specs.declared.pointer.Step.TheVariants.{Item, Member}
use Rattle.layouts.specs.declared.rule.Rule.TheVariants as rule
use Rattle.layouts.specs.rule_places.Places.{IsAt}
use Rattle.round_trip.specs.Words.{EntityModel, Pair, PropId, Schema, StoreModel, key_columns}
use Rattle.round_trip.specs.soundness.mappings.Fragments.{WritesOnce, WritesToFitting}
use Rattle.round_trip.specs.soundness.mappings.Joined.{WritesNoBarredEnum}
use Rattle.round_trip.specs.soundness.Lookups.{set_key}
use Rattle.round_trip.specs.soundness.mappings.Mappings.{HasPairIds}
use Rattle.table_owners.specs.key_matching.Matchings.{Matches}
use Rattle.groupings.proofs.name_places.FirstPlaces.{names_apart}
use Rattle.emc_base.proofs.FoundItems.{and_then_some, pairs_found, map_some}
use Rattle.layouts.proofs.rule_places.FaultPlaces.{fault_at, in_list}
use Rattle.emc_base.proofs.Joined.{in_found}
use Rattle.emc_base.proofs.facts.Found.{where_found}
use Rattle.schema_names.specs.SchemaNames.{column_named}
use Rattle.msl_rules.specs.declared.msl_lists.raw.RawMapping.{RawMapping}
use Rattle.msl_rules.specs.declared.msl_lists.raw.RawPair.{RawPair}
use Rattle.msl_rules.specs.Found.{col_numbered, pair_in, pairs_in, prop_of_picks, set_numbered, table_numbered}
use Rattle.msl_rules.specs.FragmentRules.{IsEnumFault, IsUnfitFault, IsWrittenBefore}
use Rattle.msl_rules.specs.KeepsMapping.{KeepsMappingRules}
use Rattle.msl_rules.specs.MappingMeaning.{schema_in}
use Rattle.msl_fragments.proofs.sound_fragments.NamesFound.{col_inside, one_col_name, one_prop_name, prop_inside}
use Rattle.msl_fragments.proofs.sound_fragments.StableKinds.{corresponds}
use Rattle.msl_fragments.proofs.sound_fragments.Written.{FoundFragment, no_fragment_fault}

-- a pair means the property and the column that its names stand for
pub record MeansPair (store : StoreModel) (named : List ℕ → Option PropId) (t : ℕ) (pair : RawPair) (found : Pair) : Type 0 where
  pub is_prop : named pair.prop ≡ Some found.prop
  pub is_col : column_named store t pair.col ≡ Some found.col.index

pub means_pair : (model : EntityModel) (store : StoreModel) (named : List ℕ → Option PropId) (t : ℕ) (pair : RawPair) (found : Pair) → pair_in model store named t pair ≡ Some found
    → MeansPair store named t pair found
means_pair model store named t pair found is =
    let of_prop : PropId → ℕ → Pair = λ p c. record { prop = p; col = col_numbered c } in
    let prop = and_then_some (λ p. option_map (of_prop p) (column_named store t pair.col)) (named pair.prop) found is in
    let col = map_some (of_prop prop.0) (column_named store t pair.col) found prop.2 in
    record { is_prop = prop.1 ∙ (λ i. Some (col.2 i).prop); is_col = col.1 ∙ (λ i. Some (col.2 i).col.index) }

module _ (model : EntityModel) (store : StoreModel) (raw : RawMapping) (it : FoundFragment model store raw) where
  -- the model, the store and the mapping that is meant
  abbrev schema : Schema
  schema = schema_in model store raw

  -- what a name of a property stands for
  abbrev named : List ℕ → Option PropId
  named = prop_of_picks model it.types.picks

  -- the pairs that are meant
  abbrev pub pairs_here : List Pair
  pairs_here = pairs_in model store named it.t it.written.pairs

  -- each is what one means that is written
  pub pair_of : (found : Pair) → Contains pairs_here found → (pair : RawPair) × Contains it.written.pairs pair × (pair_in model store named it.t pair ≡ Some found)
  pair_of found has = in_found (pair_in model store named it.t) it.written.pairs found has

  -- every id is in range
  pub pair_ids : All (HasPairIds schema (table_numbered it.t)) pairs_here
  pair_ids = all_from_members (HasPairIds schema (table_numbered it.t)) pairs_here (λ found has.
      let pair = pair_of found has in
      let means = means_pair model store named it.t pair.0 found pair.2 in
      (prop_inside model it.types.picks pair.0.prop found.prop means.is_prop, col_inside store it.t pair.0.col found.col.index means.is_col))

  module _ (keeps : KeepsMappingRules model store raw) where
    module _ (pair : RawPair) (has : Contains it.written.pairs pair) (found : Pair) (is : pair_in model store named it.t pair ≡ Some found) where
      -- V29: the column holds what the property does
      fits : WritesToFitting schema (table_numbered it.t) found
      fits property column is_property is_column = corresponds property column (λ no.
          no_fragment_fault model store raw keeps it (fault_at rule.Corresponds (Member (codes "ScalarProperty") ∷ Item has.0 ∷ []))
          (inl (in_list (IsUnfitFault schema named it.t) (codes "ScalarProperty") it.written.pairs has.0 pair rule.Corresponds [] (place_of_member it.written.pairs pair has) (
            where_found (λ found. ¬ WritesToFitting schema (table_numbered it.t) found) (pair_in model store named it.t pair) found is
                (λ fits. no (fits property column is_property is_column)),
            (refl, refl),
          ))))

      -- V38: it is no enumeration that tells another entity
      tells_none : WritesNoBarredEnum schema found
      tells_none declared here is_enum barred =
          no_fragment_fault model store raw keeps it (fault_at rule.ForeignValue (Member (codes "ScalarProperty") ∷ Item has.0 ∷ []))
          (inr (inr (inr (inl (in_list (IsEnumFault schema named it.t) (codes "ScalarProperty") it.written.pairs has.0 pair rule.ForeignValue [] (place_of_member it.written.pairs pair has) (
            where_found (λ found. ¬ WritesNoBarredEnum schema found) (pair_in model store named it.t pair) found is
                (λ none. none declared here is_enum barred),
            (refl, refl),
          ))))))

    -- V29
    pub all_fit : All (WritesToFitting schema (table_numbered it.t)) pairs_here
    all_fit = all_from_members (WritesToFitting schema (table_numbered it.t)) pairs_here (λ found has.
        let pair = pair_of found has in fits pair.0 pair.1 found pair.2)

    -- V38
    pub no_barred_enums : All (WritesNoBarredEnum schema) pairs_here
    no_barred_enums = all_from_members (WritesNoBarredEnum schema) pairs_here (λ found has.
        let pair = pair_of found has in tells_none pair.0 pair.1 found pair.2)

    -- V30
    pub matches : ¬ (¬ Matches (set_key model (set_numbered it.s)) (key_columns store (table_numbered it.t)) pairs_here)
    matches none = no_fragment_fault model store raw keeps it (fault_at rule.WritesKey []) (inr (inl (none, (refl, refl))))

    -- V39: no pair writes what was written before
    writes_new : (k : ℕ) (pair : RawPair) → At it.written.pairs k pair → ¬ IsWrittenBefore it.written.pairs k pair
    writes_new k pair here before =
        no_fragment_fault model store raw keeps it (fault_at rule.WrittenOnce (Member (codes "ScalarProperty") ∷ Item k ∷ []))
        (inr (inr (inr (inr (in_list (λ k pair inside. IsWrittenBefore it.written.pairs k pair × IsAt rule.WrittenOnce [] inside) (codes "ScalarProperty") it.written.pairs k pair rule.WrittenOnce [] here (before, (refl, refl)))))))

    -- V39
    pub writes_once : WritesOnce pairs_here
    writes_once = record {
      props = all_pairs_map (λ one other. one ≢ other) (λ (pair : Pair). pair.prop) pairs_here (pairs_found (pair_in model store named it.t)
          (λ one other. one.prop ≢ other.prop) (λ one other. one.prop ≢ other.prop) other_props it.written.pairs
          (names_apart (λ pair. pair.prop) it.written.pairs (λ k pair here given. writes_new k pair here (inl given))));
      cols = all_pairs_map (λ one other. one ≢ other) (λ (pair : Pair). pair.col) pairs_here (pairs_found (pair_in model store named it.t)
          (λ one other. one.col ≢ other.col) (λ one other. one.col ≢ other.col) other_cols it.written.pairs
          (names_apart (λ pair. pair.col) it.written.pairs (λ k pair here given. writes_new k pair here (inr given))));
    }
      where
        other_props : (one other : RawPair) (found met : Pair) → pair_in model store named it.t one ≡ Some found → pair_in model store named it.t other ≡ Some met
            → one.prop ≢ other.prop → found.prop ≢ met.prop
        other_props one other found met is is_other apart same =
            let first = means_pair model store named it.t one found is in
            let second = means_pair model store named it.t other met is_other in
            apart (one_prop_name model it.types.picks one.prop other.prop met.prop (first.is_prop ∙ ap Some same) second.is_prop)

        other_cols : (one other : RawPair) (found met : Pair) → pair_in model store named it.t one ≡ Some found → pair_in model store named it.t other ≡ Some met
            → one.col ≢ other.col → found.col ≢ met.col
        other_cols one other found met is is_other apart same =
            let first = means_pair model store named it.t one found is in
            let second = means_pair model store named it.t other met is_other in
            apart (one_col_name store it.t one.col other.col met.col.index (first.is_col ∙ (λ i. Some (same i).index)) second.is_col)

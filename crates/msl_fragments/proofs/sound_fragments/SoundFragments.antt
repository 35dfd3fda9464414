-- The fragments of entities that a document means are sound where it keeps the rules.
use Rattle.std.proofs.Common.{◌≡◌, ⊎_elim, All, Any, Contains, Some, ap, subst, ◌∙◌}
use Rattle.std.proofs.lemmas.Option.{slice_get_within}
use Rattle.emc_base.proofs.Lists.{all_from_members}
use Rattle.edm_types.specs.declared.mapping.CondOn.TheVariants as on
use Rattle.groupings.proofs.name_places.FirstPlaces.{first_has}
use Rattle.round_trip.specs.Words.{Cond, EntityModel, Pair, PropId, StoreModel, key_columns, props_of}
use Rattle.round_trip.specs.soundness.mappings.Fragments.{NamesSharedProps, WritesKey}
use Rattle.round_trip.specs.soundness.Lookups.{set_key}
use Rattle.round_trip.specs.soundness.mappings.Mappings.{HasFragmentIds, IsSoundFragment}
use Rattle.emc_base.proofs.FoundItems.{member_of}
use Rattle.msl_rules.specs.declared.msl_lists.raw.RawMapping.{RawMapping}
use Rattle.msl_rules.specs.Found.{prop_of_picks}
use Rattle.msl_rules.specs.KeepsMapping.{KeepsMappingRules}
use Rattle.msl_rules.specs.MappingMeaning.{mapping_in, schema_in}
use Rattle.msl_fragments.proofs.sound_fragments.MeantConds.{all_within, cond_ids, cond_of, conds_here, means_cond, names_prop, no_key_column, no_key_prop, none_barred}
use Rattle.msl_fragments.proofs.sound_fragments.MeantPairs.{all_fit, matches, means_pair, no_barred_enums, pair_ids, pair_of, pairs_here, writes_once}
use Rattle.msl_fragments.proofs.sound_fragments.MeantPicks.{cond_shares, pair_shares, pick_ids, set_here, shared, under}
use Rattle.msl_fragments.proofs.sound_fragments.StableFacts.{cols_written, props_written}
use Rattle.msl_fragments.proofs.sound_fragments.Written.{FoundFragment, meant, meant_by}

module _ (model : EntityModel) (store : StoreModel) (raw : RawMapping) (keeps : KeepsMappingRules model store raw) where
  module _ (it : FoundFragment model store raw) where
    -- every id is in range
    fragment_ids : HasFragmentIds (schema_in model store raw) (meant model store raw it)
    fragment_ids = record {
      set = let set = set_here model store raw it in slice_get_within model.sets it.s set.0 set.1;
      picks = pick_ids model it.types.picks;
      table = let table = first_has (λ table. table.name) store.tables it.written.table it.t it.table_found in slice_get_within store.tables it.t table.0 table.1;
      pairs = pair_ids model store raw it;
      conds = cond_ids model store raw it;
    }

    -- each picked type has the property
    abbrev IsShared : PropId → Type 0
    IsShared prop = All (λ pick. Contains (props_of model pick.ty) prop) (meant model store raw it).picks

    -- V28
    names_shared : NamesSharedProps (schema_in model store raw) (meant model store raw it)
    names_shared prop names = ⊎_elim by_pair by_cond names
      where
        by_pair : Any (λ pair. pair.prop ≡ prop) (pairs_here model store raw it) → IsShared prop
        by_pair some =
            let found = member_of (λ (pair : Pair). pair.prop ≡ prop) (pairs_here model store raw it) some in
            let pair = pair_of model store raw it found.0 found.1 in
            let means = means_pair model store (prop_of_picks model it.types.picks) it.t pair.0 found.0 pair.2 in
            shared model it.types.picks pair.0.prop prop (means.is_prop ∙ ap Some found.2) (pair_shares model store raw it keeps pair.0 pair.1)

        by_cond : Any (λ cond. cond.on ≡ on.Prop prop) (conds_here model store raw it) → IsShared prop
        by_cond some =
            let found = member_of (λ (cond : Cond). cond.on ≡ on.Prop prop) (conds_here model store raw it) some in
            let cond = cond_of model store raw it found.0 found.1 in
            let means = means_cond model store (prop_of_picks model it.types.picks) it.t cond.0 found.0 cond.2 in
            let name = names_prop model store (prop_of_picks model it.types.picks) it.t cond.0.prop cond.0.col prop (means.is_on ∙ ap Some found.2) in
            shared model it.types.picks name.0 prop name.2 (cond_shares model store raw it keeps cond.0 name.0 cond.1 name.1)

    -- V30
    writes_key : WritesKey (schema_in model store raw) (meant model store raw it)
    writes_key =
        let fragment = meant model store raw it in record {
          props = props_written (set_key model fragment.set) (key_columns store fragment.table) fragment.pairs (matches model store raw it keeps);
          cols = cols_written (set_key model fragment.set) (key_columns store fragment.table) fragment.pairs (matches model store raw it keeps);
        }

    -- what one means is sound
    pub sound_fragment : IsSoundFragment (schema_in model store raw) (meant model store raw it)
    sound_fragment = record {
      ids = fragment_ids;
      picks = under model store raw it keeps;
      props = names_shared;
      kinds = all_fit model store raw it keeps;
      key = writes_key;
      constants = all_within model store raw it keeps;
      no_key_prop = no_key_prop model store raw it keeps;
      no_key_column = no_key_column model store raw it keeps;
      barred = none_barred model store raw it keeps;
      enums = no_barred_enums model store raw it keeps;
      once = writes_once model store raw it keeps;
    }

  -- so all are
  pub sound_fragments : All (IsSoundFragment (schema_in model store raw)) (mapping_in model store raw).fragments
  sound_fragments = all_from_members (IsSoundFragment (schema_in model store raw)) (mapping_in model store raw).fragments (λ fragment has.
      let found = meant_by model store raw fragment has in
      subst (IsSoundFragment (schema_in model store raw)) found.1 (sound_fragment found.0))

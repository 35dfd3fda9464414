-- What V30 and V39 give of a fragment, where they are kept: no column is written twice, and what is written to the primary key is of the set's key.
use Rattle.std.proofs.Common.{◌≡◌, inl, inr, ℕ, List, [], ◌∷◌, map, codes, Contains, refl, subst}
use Rattle.std.proofs.lemmas.List.Elements.{All-contains}
use Rattle.emc_base.specs.Lists.{At}
use Rattle.emc_base.proofs.Mapped.{contains_map}
use Rattle.emc_base.proofs.Members.{in_map}
use Rattle.json_form.specs.declared.pointer.Step.{Step}
use Rattle.json_form.specs.declared.pointer.Step.TheVariants.{Item, Member}
use Rattle.layouts.specs.declared.fault.Fault.{Fault}
use Rattle.layouts.specs.declared.rule.Rule.TheVariants.{WritesKey, WrittenOnce}
use Rattle.layouts.specs.rule_places.Places.{InList, IsAt}
use Rattle.groupings.specs.name_places.GivenNames.{IsGivenBefore}
use Rattle.round_trip.specs.Words.{ColId, EntityModel, Fragment, Pair, PropId, Schema, StoreModel, key_columns}
use Rattle.round_trip.specs.soundness.Lookups.{set_key}
use Rattle.schema_names.specs.SchemaNames.{set_named, table_named}
use Rattle.table_owners.specs.key_matching.Matchings.{Matches}
use Rattle.layouts.proofs.rule_places.FaultPlaces.{fault_at, in_list}
use Rattle.emc_base.proofs.Stable.{stable}
use Rattle.emc_base.proofs.facts.Found.{where_found}
use Rattle.msl_rules.specs.declared.msl_lists.raw.RawMapping.{RawMapping}
use Rattle.msl_rules.specs.declared.msl_lists.raw.RawPair.{RawPair}
use Rattle.msl_rules.specs.Found.{prop_of_picks}
use Rattle.msl_rules.specs.FragmentRules.{BreaksFragmentRules, IsFragmentFault, IsSetFault, IsTypesFault, IsWrittenBefore}
use Rattle.msl_rules.specs.KeepsMapping.{KeepsMappingRules}
use Rattle.msl_rules.specs.MappingMeaning.{schema_in}
use Rattle.msl_fragments.proofs.sound_owners.Among.{props_tell}
use Rattle.msl_fragments.proofs.sound_owners.ColumnNames.{TellsByColumn, columns_once}
use Rattle.msl_fragments.proofs.sound_owners.Fragments.{IsFragmentOf}
use Rattle.msl_rules.specs.OwnerRules.{is_among_props}

-- pairs write the properties of a key to the columns of a primary key
pub record WritesOwnKey (key : List PropId) (cols : List ColId) (pairs : List Pair) : Type 0 where
  pub once : TellsByColumn pairs
  pub of_key : (pair : Pair) → Contains pairs pair → Contains cols pair.col → Contains key pair.prop

-- where some pairs match a key with a primary key, and none has the column of another, no other pair writes to the primary key
matched : (key : List PropId) (cols : List ColId) (pairs : List Pair) → Matches key cols pairs → TellsByColumn pairs
    → (pair : Pair) → Contains pairs pair → Contains cols pair.col → Contains key pair.prop
matched key cols pairs matches once pair has col =
    let taken = in_map (λ (pair : Pair). pair.col) matches.chosen pair.col (All-contains (Contains (map (λ pair. pair.col) matches.chosen)) cols pair.col matches.columns.all col) in
    let one : taken.0 ≡ pair = once taken.0 pair (All-contains (Contains pairs) matches.chosen taken.0 matches.among taken.1) has taken.2 in
    let P : Pair → Type 0 = λ pair. Contains key pair.prop in
    subst P one (All-contains (Contains key) (map (λ (pair : Pair). pair.prop) matches.chosen) taken.0.prop matches.props.only
    (contains_map (λ (pair : Pair). pair.prop) matches.chosen taken.0 taken.1))

module _ (model : EntityModel) (store : StoreModel) (raw : RawMapping) (keeps : KeepsMappingRules model store raw) (fragment : Fragment) (of : IsFragmentOf model store raw fragment) where
  -- seen from the fragment, nothing is broken
  none_of_fragment : (fault : Fault) → ¬ BreaksFragmentRules (schema_in model store raw) of.site.types of.site.fragment of.meant.s of.meant.t fault
  none_of_fragment fault broken =
      let schema : Schema = schema_in model store raw in
      let site = of.site in
      let s = of.meant.s in
      let in_types : List Step = Member (codes "MappingFragment") ∷ Item of.here.k ∷ fault.place in
      let in_set : List Step = Member (codes "EntityTypeMapping") ∷ Item of.here.j ∷ in_types in
      let in_sets : List Step = Member (codes "EntitySetMapping") ∷ Item of.here.i ∷ in_set in
      keeps.keeps (fault_at fault.rule (Member (codes "EntityContainerMapping") ∷ in_sets)) (inr (inr (inr (inr (inl (record {
        rest = in_sets;
        reached = refl;
        holds = in_list (IsSetFault schema) (codes "EntitySetMapping") raw.sets of.here.i site.set fault.rule in_set of.here.set
            (where_found (λ s. InSet s (fault_at fault.rule in_set)) (set_named model site.set.name) s of.meant.is_set
            (in_list (IsTypesFault schema s) (codes "EntityTypeMapping") site.set.types of.here.j site.types fault.rule in_types of.here.types
            (in_list (IsFragmentFault schema site.types s) (codes "MappingFragment") site.types.fragments of.here.k site.fragment fault.rule fault.place of.here.fragment
            (where_found (λ t. BreaksFragmentRules schema site.types site.fragment s t fault) (table_named store site.fragment.table) of.meant.t of.meant.is_table broken))));
      }))))))
    where
      InSet : ℕ → Fault → Type 0
      InSet s = InList (codes "EntityTypeMapping") (IsTypesFault (schema_in model store raw) s) of.site.set.types

  -- V39
  written_once : (k : ℕ) (pair : RawPair) → At of.site.fragment.pairs k pair → ¬ IsGivenBefore (λ other. other.col) of.site.fragment.pairs k pair
  written_once k pair here given =
      none_of_fragment (fault_at WrittenOnce (Member (codes "ScalarProperty") ∷ Item k ∷ [])) (inr (inr (inr (inr
      (in_list (λ k pair inside. IsWrittenBefore of.site.fragment.pairs k pair × IsAt WrittenOnce [] inside) (codes "ScalarProperty") of.site.fragment.pairs k pair WrittenOnce []
      here (inr given, (refl, refl)))))))

  -- so no two of what is written have one column
  fragment_once : TellsByColumn fragment.pairs
  fragment_once =
      let P : Fragment → Type 0 = λ fragment. TellsByColumn fragment.pairs in
      subst P of.meant.is (columns_once model store (prop_of_picks model of.site.types.picks) of.meant.t of.site.fragment.pairs written_once)

  -- V30
  key_written : ¬ (¬ Matches (set_key model fragment.set) (key_columns store fragment.table) fragment.pairs)
  key_written =
      let P : Fragment → Type 0 = λ fragment. ¬ (¬ Matches (set_key model fragment.set) (key_columns store fragment.table) fragment.pairs) in
      subst P of.meant.is (λ unwritten. none_of_fragment (fault_at WritesKey []) (inr (inl (unwritten, (refl, refl)))))

  -- so the set's key is written
  pub fragment_key : WritesOwnKey (set_key model fragment.set) (key_columns store fragment.table) fragment.pairs
  fragment_key =
      let key : List PropId = set_key model fragment.set in
      let cols : List ColId = key_columns store fragment.table in
      record {
        once = fragment_once;
        of_key = λ pair has col. stable (is_among_props key pair.prop) (props_tell key pair.prop)
            (λ never. key_written (λ matches. never (matched key cols fragment.pairs matches fragment_once pair has col)));
      }

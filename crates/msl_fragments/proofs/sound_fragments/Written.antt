-- Each fragment of entities that a document means is what one of its MappingFragments means whose set and table are found; and what is wrong with
-- such a MappingFragment is wrong with the document.
use Rattle.std.proofs.Common.{◌≡◌, inl, inr, ℕ, List, [], ◌∷◌, Contains, Some, codes, option_map, refl, ap, ◌∙◌}
use Rattle.std.specs.List.{Any, enumerate_from}
use Rattle.emc_base.specs.Lists.{At}
use Rattle.emc_base.proofs.Numbered.{enumerated_at}
use Rattle.emc_base.proofs.Members.{in_map}
use Rattle.json_form.specs.declared.pointer.Step.{Step}
use Rattle.json_form.specs.declared.pointer.Step.TheVariants.{Item, Member}
use Rattle.json_form.specs.Pointers.{pointer_of}
use Rattle.layouts.specs.declared.fault.Fault.{Fault}
use Rattle.layouts.specs.declared.rule.Rule.{Rule}
use Rattle.layouts.specs.declared.rule.Rule.TheVariants.{PickedType}
use Rattle.layouts.specs.rule_places.Places.{InList}
use Rattle.round_trip.specs.Words.{EntityModel, EntitySet, Fragment, StoreModel}
use Rattle.emc_base.proofs.FoundItems.{and_then_some, map_some}
use Rattle.layouts.proofs.rule_places.FaultPlaces.{fault_at, in_list}
use Rattle.emc_base.proofs.Joined.{in_flat_map, in_found}
use Rattle.emc_base.proofs.facts.Found.{where_found}
use Rattle.schema_names.specs.SchemaNames.{set_named, table_named}
use Rattle.msl_rules.specs.declared.msl_lists.raw.RawFragment.{RawFragment}
use Rattle.msl_rules.specs.declared.msl_lists.raw.RawMapping.{RawMapping}
use Rattle.msl_rules.specs.declared.msl_lists.raw.RawSetMapping.{RawSetMapping}
use Rattle.msl_rules.specs.declared.msl_lists.raw.RawTypeMapping.{RawTypeMapping}
use Rattle.msl_rules.specs.FragmentRules.{BreaksFragmentRules, IsFragmentFault, IsSetFault, IsTypesFault}
use Rattle.msl_rules.specs.KeepsMapping.{KeepsMappingRules}
use Rattle.msl_rules.specs.MappingMeaning.{fragment_at, fragment_with, mapping_in, schema_in}
use Rattle.msl_rules.specs.NameRules.{InContainer, IsPickedFault, IsSharedFault, IsSharedTypesFault, IsTypeNameFault, PicksOther}
use Rattle.msl_rules.specs.Sites.{Site, fragment_place, sites, sites_of_set, sites_of_types}

-- a MappingFragment of a document whose set and table are found
pub record FoundFragment (model : EntityModel) (store : StoreModel) (raw : RawMapping) : Type 0 where
  pub i : ℕ
  pub set : RawSetMapping
  pub is_set : At raw.sets i set
  pub j : ℕ
  pub types : RawTypeMapping
  pub are_types : At set.types j types
  pub k : ℕ
  pub written : RawFragment
  pub is_written : At types.fragments k written
  pub s : ℕ
  pub set_found : set_named model set.name ≡ Some s
  pub t : ℕ
  pub table_found : table_named store written.table ≡ Some t

-- what is wrong in the container
in_container : (P : Fault → Type 0) (rule : Rule) (rest : List Step) → P (fault_at rule rest) → InContainer P (fault_at rule (Member (codes "EntityContainerMapping") ∷ rest))
in_container P rule rest holds = record { rest = rest; reached = refl; holds = holds }

module _ (model : EntityModel) (store : StoreModel) (raw : RawMapping) where
  -- what such a MappingFragment means
  abbrev pub meant : FoundFragment model store raw → Fragment
  meant it = fragment_with model store (pointer_of (fragment_place it.i it.j it.k)) it.types it.written it.s it.t

  -- the fragment is what one of these means
  abbrev pub IsMeant : Fragment → Type 0
  IsMeant fragment = (it : FoundFragment model store raw) × (meant it ≡ fragment)

  module _ (fragment : Fragment) (i : ℕ) (set : RawSetMapping) (is_set : At raw.sets i set) where
    module _ (j : ℕ) (types : RawTypeMapping) (are_types : At set.types j types) where
      by_written : (k : ℕ) (written : RawFragment) → At types.fragments k written
          → fragment_at model store (record { place = fragment_place i j k; set = set; types = types; fragment = written }) ≡ Some fragment → IsMeant fragment
      by_written k written is_written is =
          let with : ℕ → ℕ → Fragment = fragment_with model store (pointer_of (fragment_place i j k)) types written in
          let of_set = and_then_some (λ s. option_map (with s) (table_named store written.table)) (set_named model set.name) fragment is in
          let of_table = map_some (with of_set.0) (table_named store written.table) fragment of_set.2 in (
            record {
              i = i;
              set = set;
              is_set = is_set;
              j = j;
              types = types;
              are_types = are_types;
              k = k;
              written = written;
              is_written = is_written;
              s = of_set.0;
              set_found = of_set.1;
              t = of_table.0;
              table_found = of_table.1;
            },
            of_table.2,
          )

      by_types : (site : Site) → Contains (sites_of_types i set j types) site → fragment_at model store site ≡ Some fragment → IsMeant fragment
      by_types site has is =
          let here : ℕ × RawFragment → Site = λ k. record { place = fragment_place i j k.0; set = set; types = types; fragment = k.1 } in
          let written = in_map here (enumerate_from 0 types.fragments) site has in
          by_written written.0.0 written.0.1 (enumerated_at types.fragments written.0 written.1) (ap (fragment_at model store) written.2 ∙ is)

    by_set : (site : Site) → Contains (sites_of_set i set) site → fragment_at model store site ≡ Some fragment → IsMeant fragment
    by_set site has is =
        let types = in_flat_map (λ (j : ℕ × RawTypeMapping). sites_of_types i set j.0 j.1) (enumerate_from 0 set.types) site has in
        by_types types.0.0 types.0.1 (enumerated_at set.types types.0 types.1) site types.2 is

  -- each fragment of the mapping is
  pub meant_by : (fragment : Fragment) → Contains (mapping_in model store raw).fragments fragment → IsMeant fragment
  meant_by fragment has =
      let site = in_found (fragment_at model store) (sites raw) fragment has in
      let set = in_flat_map (λ (i : ℕ × RawSetMapping). sites_of_set i.0 i.1) (enumerate_from 0 raw.sets) site.0 site.1 in
      by_set fragment set.0.0 set.0.1 (enumerated_at raw.sets set.0 set.1) site.0 set.2 site.2

  -- where the rules are kept, nothing is wrong with it
  module _ (keeps : KeepsMappingRules model store raw) (it : FoundFragment model store raw) where
    -- V27, V28: with the set's mapping
    no_name_fault : (fault : Fault) → ¬ IsTypeNameFault model it.i it.set fault
    no_name_fault fault broken = keeps.keeps (fault_at fault.rule (Member (codes "EntityContainerMapping") ∷ Member (codes "EntitySetMapping") ∷ Item it.i ∷ fault.place))
        (inr (inr (inr (inl (in_container (InList (codes "EntitySetMapping") (IsTypeNameFault model) raw.sets) fault.rule (Member (codes "EntitySetMapping") ∷ Item it.i ∷ fault.place)
        (in_list (IsTypeNameFault model) (codes "EntitySetMapping") raw.sets it.i it.set fault.rule fault.place it.is_set broken))))))

    -- V27: with what is picked
    pub picks_of_set : (entry : EntitySet) → At model.sets it.s entry → ¬ Any (PicksOther model entry) it.types.picks
    picks_of_set entry here other =
        no_name_fault (fault_at PickedType (Member (codes "EntityTypeMapping") ∷ Item it.j ∷ Member (codes "TypeName") ∷ []))
        (inl (where_found
        (λ s. (entry : EntitySet) × At model.sets s entry × InList (codes "EntityTypeMapping") (IsPickedFault model entry) it.set.types (fault_at PickedType (Member (codes "EntityTypeMapping") ∷ Item it.j ∷ Member (codes "TypeName") ∷ [])))
        (set_named model it.set.name) it.s it.set_found
        (entry, here, in_list (IsPickedFault model entry) (codes "EntityTypeMapping") it.set.types it.j it.types PickedType (Member (codes "TypeName") ∷ []) it.are_types (other, (refl, refl)))))

    -- V28: with what is named
    pub no_shared_fault : (fault : Fault) → ¬ IsSharedFault model it.types.picks it.k it.written fault
    no_shared_fault fault broken =
        no_name_fault (fault_at fault.rule (Member (codes "EntityTypeMapping") ∷ Item it.j ∷ Member (codes "MappingFragment") ∷ Item it.k ∷ fault.place))
        (inr (in_list (IsSharedTypesFault model) (codes "EntityTypeMapping") it.set.types it.j it.types fault.rule (Member (codes "MappingFragment") ∷ Item it.k ∷ fault.place) it.are_types
        (in_list (IsSharedFault model it.types.picks) (codes "MappingFragment") it.types.fragments it.k it.written fault.rule fault.place it.is_written broken)))

    -- V29, V30, V33 to V35, V38 and V39: with the set's mapping
    no_set_fault : (fault : Fault) → ¬ IsSetFault (schema_in model store raw) it.i it.set fault
    no_set_fault fault broken = keeps.keeps (fault_at fault.rule (Member (codes "EntityContainerMapping") ∷ Member (codes "EntitySetMapping") ∷ Item it.i ∷ fault.place))
        (inr (inr (inr (inr (inl (in_container (InList (codes "EntitySetMapping") (IsSetFault (schema_in model store raw)) raw.sets) fault.rule (Member (codes "EntitySetMapping") ∷ Item it.i ∷ fault.place)
        (in_list (IsSetFault (schema_in model store raw)) (codes "EntitySetMapping") raw.sets it.i it.set fault.rule fault.place it.is_set broken)))))))

    -- with the fragment
    pub no_fragment_fault : (fault : Fault) → ¬ BreaksFragmentRules (schema_in model store raw) it.types it.written it.s it.t fault
    no_fragment_fault fault broken =
        let schema = schema_in model store raw in
        let within : List Step = Member (codes "MappingFragment") ∷ Item it.k ∷ fault.place in
        let whole : Fault = fault_at fault.rule (Member (codes "EntityTypeMapping") ∷ Item it.j ∷ within) in
        no_set_fault whole (where_found (λ s. InList (codes "EntityTypeMapping") (IsTypesFault schema s) it.set.types whole) (set_named model it.set.name) it.s it.set_found
        (in_list (IsTypesFault schema it.s) (codes "EntityTypeMapping") it.set.types it.j it.types fault.rule within it.are_types
        (in_list (IsFragmentFault schema it.types it.s) (codes "MappingFragment") it.types.fragments it.k it.written fault.rule fault.place it.is_written
        (where_found (λ t. BreaksFragmentRules schema it.types it.written it.s t fault) (table_named store it.written.table) it.t it.table_found broken))))

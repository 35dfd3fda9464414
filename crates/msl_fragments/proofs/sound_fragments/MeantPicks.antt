-- What the TypeName of a MappingFragment picks, and the properties that the fragment names, where the rules are kept. V27, V28.
use Rattle.std.proofs.Common.{◌≡◌, inl, inr, ℕ, List, [], ◌∷◌, All, Contains, MatchOption, Some, codes, refl, sym, ap, subst, ◌∙◌}
use Rattle.std.specs.List.{filter_map}
use Rattle.std.proofs.lemmas.List.Elements.{All-contains}
use Rattle.std.proofs.lemmas.Option.{same_Some}
use Rattle.emc_base.specs.Lists.{At}
use Rattle.emc_base.proofs.Lists.{all_from_members}
use Rattle.emc_base.proofs.Mapped.{contains_at}
use Rattle.graphs.proofs.base_chains.orders.Orders.{place_of_member}
use Rattle.json_form.specs.declared.pointer.Step.TheVariants.{Item, Member}
use Rattle.layouts.specs.declared.rule.Rule.TheVariants.{SharedProperty}
use Rattle.edm_types.specs.Forest.{type_numbered}
use Rattle.round_trip.specs.Words.{EntityModel, EntitySet, IsA, Pick, PropId, StoreModel, props_of}
use Rattle.round_trip.specs.soundness.Lookups.{IsUnderElement}
use Rattle.round_trip.specs.soundness.models.ModelIds.{IsTypeId}
use Rattle.groupings.proofs.name_places.FirstPlaces.{first_has}
use Rattle.layouts.proofs.rule_places.FaultPlaces.{fault_at, in_list}
use Rattle.emc_base.proofs.FoundItems.{some_member, map_some}
use Rattle.emc_base.proofs.Joined.{in_found}
use Rattle.emc_base.proofs.facts.Found.{where_found}
use Rattle.schema_names.specs.SchemaNames.{prop_named, type_named}
use Rattle.msl_rules.specs.declared.msl_lists.raw.RawCond.{RawCond}
use Rattle.msl_rules.specs.declared.msl_lists.raw.RawMapping.{RawMapping}
use Rattle.msl_rules.specs.declared.msl_lists.raw.RawPair.{RawPair}
use Rattle.msl_rules.specs.declared.msl_lists.raw.RawPick.{RawPick}
use Rattle.msl_rules.specs.Found.{pick_in, prop_of_picks, set_numbered}
use Rattle.msl_rules.specs.KeepsMapping.{KeepsMappingRules}
use Rattle.msl_rules.specs.NameRules.{IsUnsharedName, NamesNoShared, PicksOther}
use Rattle.msl_fragments.proofs.sound_fragments.DerivedTypes.{is_derived}
use Rattle.msl_fragments.proofs.sound_fragments.NamesFound.{of_first, prop_of_type, type_inside}
use Rattle.msl_fragments.proofs.sound_fragments.StableFacts.{has_prop}
use Rattle.msl_fragments.proofs.sound_fragments.Written.{FoundFragment, no_shared_fault, picks_of_set}

-- what an item of a TypeName means: it names a type
pub record MeansPick (model : EntityModel) (picks : List RawPick) (found : Pick) : Type 0 where
  pub pick : RawPick
  pub among : Contains picks pick
  pub is_type : type_named model pick.reference ≡ Some found.ty.index

module _ (model : EntityModel) (picks : List RawPick) where
  -- each pick that is meant is what an item means
  pub pick_of : (found : Pick) → Contains (filter_map (pick_in model) picks) found → MeansPick model picks found
  pick_of found has =
      let pick = in_found (pick_in model) picks found has in
      let of_type : ℕ → Pick = λ t. record { ty = type_numbered t; below = pick.0.below } in
      let type = map_some of_type (type_named model pick.0.reference) found pick.2 in
      record { pick = pick.0; among = pick.1; is_type = type.1 ∙ (λ i. Some (type.2 i).ty.index) }

  -- every id is in range
  pub pick_ids : All (λ pick. IsTypeId model pick.ty) (filter_map (pick_in model) picks)
  pick_ids = all_from_members (λ (pick : Pick). IsTypeId model pick.ty) (filter_map (pick_in model) picks) (λ found has.
      let it = pick_of found has in type_inside model it.pick.reference found.ty.index it.is_type)

  -- V28: where a name can't but stand for a shared property, each picked type has the one that it stands for
  pub shared : (name : List ℕ) (prop : PropId) → prop_of_picks model picks name ≡ Some prop → ¬ NamesNoShared model picks name
      → All (λ pick. Contains (props_of model pick.ty) prop) (filter_map (pick_in model) picks)
  shared name prop is never = all_from_members (λ (pick : Pick). Contains (props_of model pick.ty) prop) (filter_map (pick_in model) picks) (λ found has.
      has_prop (props_of model found.ty) prop (λ lacks. never (λ other all. lacks (has_it found (pick_of found has) other all))))
    where
      -- the property that the name stands for in the type of a pick
      Stands : PropId → RawPick → Type 0
      Stands p pick = (t : ℕ) × (type_named model pick.reference ≡ Some t) × (prop_named model t name ≡ Some p)

      has_it : (found : Pick) → MeansPick model picks found → (other : PropId) → All (Stands other) picks → Contains (props_of model found.ty) prop
      has_it found it other all =
          let first = of_first model picks name prop is in
          let there = All-contains (Stands other) picks first.pick all (contains_at picks 0 first.pick first.is_first) in
          let one_type : there.0 ≡ first.t = same_Some there.0 first.t (sym there.1 ∙ first.is_type) in
          let P : ℕ → Type 0 = λ t. prop_named model t name ≡ Some other in
          let one_prop : other ≡ prop = same_Some other prop (sym (subst P one_type there.2) ∙ first.is_prop) in
          let here = All-contains (Stands other) picks it.pick all it.among in
          let type : here.0 ≡ found.ty.index = same_Some here.0 found.ty.index (sym here.1 ∙ it.is_type) in
          prop_of_type model found.ty.index name prop (subst P type here.2 ∙ ap Some one_prop)

module _ (model : EntityModel) (store : StoreModel) (raw : RawMapping) (it : FoundFragment model store raw) where
  -- the set is one of the model's
  pub set_here : (entry : EntitySet) × At model.sets it.s entry
  set_here = let first = first_has (λ set. set.name) model.sets it.set.name it.s it.set_found in (first.0, first.1)

  module _ (keeps : KeepsMappingRules model store raw) where
    -- V27
    pub under : All (λ pick. IsUnderElement model (set_numbered it.s) pick.ty) (filter_map (pick_in model) it.types.picks)
    under = all_from_members (λ (pick : Pick). IsUnderElement model (set_numbered it.s) pick.ty) (filter_map (pick_in model) it.types.picks) (λ found has.
        let means = pick_of model it.types.picks found has in (
          set_here.0,
          set_here.1,
          is_derived model keeps.sound_model found.ty.index set_here.0.element (type_inside model means.pick.reference found.ty.index means.is_type) (λ not.
              picks_of_set model store raw keeps it set_here.0 set_here.1 (some_member (PicksOther model set_here.0) it.types.picks means.pick means.among
              (where_found (λ t. ¬ IsA model (type_numbered t) set_here.0.element) (type_named model means.pick.reference) found.ty.index means.is_type not))),
        ))

    -- V28 of a pair, and of a condition that names a property
    pub pair_shares : (pair : RawPair) → Contains it.written.pairs pair → ¬ NamesNoShared model it.types.picks pair.prop
    pair_shares pair has none = no_shared_fault model store raw keeps it (fault_at SharedProperty (Member (codes "ScalarProperty") ∷ Item has.0 ∷ Member (codes "Name") ∷ []))
        (inl (in_list (λ n pair. IsUnsharedName model it.types.picks pair.prop) (codes "ScalarProperty") it.written.pairs has.0 pair SharedProperty (Member (codes "Name") ∷ [])
        (place_of_member it.written.pairs pair has) (none, (refl, refl))))

    pub cond_shares : (cond : RawCond) (name : List ℕ) → Contains it.written.conds cond → cond.prop ≡ Some name → ¬ NamesNoShared model it.types.picks name
    cond_shares cond name has named none = no_shared_fault model store raw keeps it (fault_at SharedProperty (Member (codes "Condition") ∷ Item has.0 ∷ Member (codes "Name") ∷ []))
        (inr (in_list (λ n cond inside. MatchOption cond.prop ⊥ (λ name. IsUnsharedName model it.types.picks name inside)) (codes "Condition") it.written.conds has.0 cond
        SharedProperty (Member (codes "Name") ∷ []) (place_of_member it.written.conds cond has)
        (where_found (λ name. IsUnsharedName model it.types.picks name (fault_at SharedProperty (Member (codes "Name") ∷ []))) cond.prop name named (none, (refl, refl)))))

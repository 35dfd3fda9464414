-- The table that a type is found to have, and that the type of each end has one. V7.
use Rattle.std.proofs.Common.{◌≡◌, ◌==◌, ℕ, [], ◌∷◌, true, false, Option, Some, None, codes, refl, sym, ap, subst}
use Rattle.std.specs.Option.{MatchOption, option_map_or}
use Rattle.std.proofs.lemmas.Bool.Decides.{Decides-eqb}
use Rattle.emc_base.specs.Lists.{At}
use Rattle.emc_base.proofs.facts.Found.{position_passes}
use Rattle.json_form.specs.declared.pointer.Step.TheVariants.{Item, Member}
use Rattle.layouts.specs.declared.fault.Fault.{Fault}
use Rattle.layouts.specs.declared.rule.Rule.TheVariants.{Resolves}
use Rattle.csdl_names.specs.declared.csdl_lists.raw.RawAssociation.{RawAssociation}
use Rattle.csdl_names.specs.declared.csdl_lists.raw.RawEnd.{RawEnd}
use Rattle.csdl_names.specs.declared.csdl_lists.raw.RawModel.{RawModel}
use Rattle.csdl_names.specs.declared.csdl_lists.raw.RawSet.{RawSet}
use Rattle.csdl_names.specs.csdl_lists.References.{names_in}
use Rattle.layouts.proofs.rule_places.FaultPlaces.{fault_at, in_list}
use Rattle.groupings.proofs.name_places.Finds.{there_is}
use Rattle.ssdl_model.specs.ssdl_lists.Tables.{is_of_type, table_of}
use Rattle.ssdl_model.specs.ssdl_rules.Owned.{HasEndlessFault, IsEndless, IsEndlessFault}

module _ (raw : RawModel) where
  -- the table that is found for a type is of the type
  pub table_has : (t k : ℕ) → table_of (names_in raw) raw t ≡ Some k → (set : RawSet) × At raw.container.sets k set × ((names_in raw).type_named set.element ≡ Some t)
  table_has t k is =
      let found = position_passes (is_of_type (names_in raw) t) raw.container.sets k is in
      (found.0, found.1, by ((names_in raw).type_named found.0.element) found.2)
    where
      by : (type : Option ℕ) → option_map_or (λ other. other == t) type false ≡ true → type ≡ Some t
      by None is = absurd cc
      by (Some other) is = ap Some ((Decides-eqb other t).0 is)

  -- V7: the type of an end has a table
  pub table_found : ((fault : Fault) → ¬ IsEndless raw fault) → (i : ℕ) (association : RawAssociation) → At raw.associations i association
      → (k : ℕ) (end : RawEnd) → At association.ends k end → (t : ℕ) → (names_in raw).type_named end.ty ≡ Some t → (table : ℕ) × (table_of (names_in raw) raw t ≡ Some table)
  table_found never i association here k end at t is = there_is (table_of (names_in raw) raw t) (λ none.
      never (fault_at Resolves (Member (codes "Association") ∷ Item i ∷ Member (codes "End") ∷ Item k ∷ Member (codes "Type") ∷ []))
      (in_list (HasEndlessFault (names_in raw) raw) (codes "Association") raw.associations i association Resolves (Member (codes "End") ∷ Item k ∷ Member (codes "Type") ∷ []) here
      (in_list (IsEndlessFault (names_in raw) raw) (codes "End") association.ends k end Resolves (Member (codes "Type") ∷ []) at (of_none none, (refl, refl)))))
    where
      of_none : table_of (names_in raw) raw t ≡ None → MatchOption ((names_in raw).type_named end.ty) ⊥ (λ type. table_of (names_in raw) raw type ≡ None)
      of_none none = let P : Option ℕ → Type 0 = λ found. MatchOption found ⊥ (λ type. table_of (names_in raw) raw type ≡ None) in subst P (sym is) none

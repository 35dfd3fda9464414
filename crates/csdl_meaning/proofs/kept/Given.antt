-- What V6 gives of sets and associations, where it is kept.
use Rattle.std.proofs.Common.{◌≢◌, inl, inr, ℕ, [], ◌∷◌, map, AllPairs, Contains, codes, refl}
use Rattle.emc_base.specs.Lists.{At}
use Rattle.json_form.specs.declared.pointer.Step.TheVariants.{Item, Member}
use Rattle.layouts.specs.declared.fault.Fault.{Fault}
use Rattle.layouts.specs.declared.rule.Rule.TheVariants.{NamedOnce}
use Rattle.groupings.proofs.name_places.FirstPlaces.{names_apart}
use Rattle.csdl_names.specs.declared.csdl_lists.raw.RawAssociation.{RawAssociation}
use Rattle.csdl_names.specs.declared.csdl_lists.raw.RawModel.{RawModel}
use Rattle.csdl_names.specs.declared.csdl_lists.raw.RawSet.{RawSet}
use Rattle.csdl_names.specs.declared.csdl_lists.raw.RawType.{RawType}
use Rattle.csdl_names.specs.Repeated.{IsRepeated, IsRepeatedInAssociation, IsRepeatedInContainer}
use Rattle.layouts.specs.rule_places.Names.{IsGivenAgain}
use Rattle.layouts.proofs.rule_places.FaultPlaces.{fault_at, in_list, repeated_in}

module _ (raw : RawModel) (never : (fault : Fault) → ¬ IsRepeated raw fault) where
  -- associations have different names
  pub associations_apart : AllPairs (λ one other. one.name ≢ other.name) raw.associations
  associations_apart = names_apart (λ association. association.name) raw.associations (λ i association here given.
      never (fault_at NamedOnce (Member (codes "Association") ∷ Item i ∷ Member (codes "Name") ∷ []))
      (inl (inl (repeated_in (λ association. association.name) [] (codes "Association") (codes "Name") raw.associations i association here (inr given)))))

  -- and none has the name of a type
  pub type_is_other : (i : ℕ) (type : RawType) → At raw.types i type → ¬ Contains (map (λ association. association.name) raw.associations) type.name
  type_is_other i type here has =
      never (fault_at NamedOnce (Member (codes "EntityType") ∷ Item i ∷ Member (codes "Name") ∷ []))
      (inl (inr (inl (repeated_in (λ type. type.name) (map (λ association. association.name) raw.associations) (codes "EntityType") (codes "Name") raw.types i type here (inl has)))))

  -- seen from the container, nothing is repeated
  none_in_container : (fault : Fault) → ¬ IsRepeatedInContainer raw.container fault
  none_in_container fault broken = never (fault_at fault.rule (Member (codes "EntityContainer") ∷ fault.place))
      (inr (inl (record { rest = fault.place; reached = refl; holds = broken })))

  -- association sets have different names
  pub association_sets_apart : AllPairs (λ one other. one.name ≢ other.name) raw.container.association_sets
  association_sets_apart = names_apart (λ set. set.name) raw.container.association_sets (λ i set here given.
      none_in_container (fault_at NamedOnce (Member (codes "AssociationSet") ∷ Item i ∷ Member (codes "Name") ∷ []))
      (inl (repeated_in (λ set. set.name) [] (codes "AssociationSet") (codes "Name") raw.container.association_sets i set here (inr given))))

  -- a set's name isn't given again
  none_of_set : (i : ℕ) (set : RawSet) → At raw.container.sets i set
      → ¬ IsGivenAgain (λ set. set.name) (map (λ set. set.name) raw.container.association_sets) raw.container.sets i set
  none_of_set i set here again =
      none_in_container (fault_at NamedOnce (Member (codes "EntitySet") ∷ Item i ∷ Member (codes "Name") ∷ []))
      (inr (repeated_in (λ set. set.name) (map (λ set. set.name) raw.container.association_sets) (codes "EntitySet") (codes "Name") raw.container.sets i set here again))

  -- entity sets have different names
  pub sets_apart : AllPairs (λ one other. one.name ≢ other.name) raw.container.sets
  sets_apart = names_apart (λ set. set.name) raw.container.sets (λ i set here given. none_of_set i set here (inr given))

  -- and none has the name of an association set
  pub set_is_other : (i : ℕ) (set : RawSet) → At raw.container.sets i set → ¬ Contains (map (λ set. set.name) raw.container.association_sets) set.name
  set_is_other i set here has = none_of_set i set here (inl has)

  -- the ends of an association have different roles
  pub roles_apart : (i : ℕ) (association : RawAssociation) → At raw.associations i association → AllPairs (λ one other. one.role ≢ other.role) association.ends
  roles_apart i association here = names_apart (λ end. end.role) association.ends (λ k end at given.
      never (fault_at NamedOnce (Member (codes "Association") ∷ Item i ∷ Member (codes "End") ∷ Item k ∷ Member (codes "Role") ∷ []))
      (inr (inr (inr (inr (in_list IsRepeatedInAssociation (codes "Association") raw.associations i association NamedOnce (Member (codes "End") ∷ Item k ∷ Member (codes "Role") ∷ []) here
      (repeated_in (λ end. end.role) [] (codes "End") (codes "Role") association.ends k end at (inr given))))))))

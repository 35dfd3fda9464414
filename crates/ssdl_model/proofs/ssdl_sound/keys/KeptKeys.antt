-- What V24 and V25 give of an association with a constraint, where they are kept.
use Rattle.std.proofs.Common.{◌≡◌, inl, inr, ℕ, [], ◌∷◌, Option, Some, codes, refl, sym, subst}
use Rattle.std.specs.Option.{MatchOption}
use Rattle.emc_base.specs.Lists.{At, AreApart, HoldsEachOnce}
use Rattle.json_form.specs.declared.pointer.Step.TheVariants.{Item, Member}
use Rattle.layouts.specs.declared.fault.Fault.{Fault}
use Rattle.layouts.specs.declared.rule.Rule.TheVariants.{ForeignKey, PointsElsewhere}
use Rattle.csdl_names.specs.declared.csdl_lists.raw.RawAssociation.{RawAssociation}
use Rattle.csdl_names.specs.declared.csdl_lists.raw.RawConstraint.{RawConstraint}
use Rattle.csdl_names.specs.declared.csdl_lists.raw.RawModel.{RawModel}
use Rattle.csdl_names.specs.csdl_lists.References.{names_in}
use Rattle.csdl_names.specs.Unresolved.{type_of_role}
use Rattle.csdl_associations.specs.csdl_constraints.Sides.{key_names, types_of_side}
use Rattle.layouts.proofs.rule_places.FaultPlaces.{fault_at, in_list}
use Rattle.csdl_meaning.proofs.types.PropKinds.{same_types}
use Rattle.emc_base.proofs.Stable.{has_each}
use Rattle.ssdl_model.specs.ssdl_lists.Columns.{column_type}
use Rattle.ssdl_model.specs.ssdl_rules.ForeignKeys.{BreaksForeignKey, IsForeignKeyFault, PointsToItself}
use Rattle.ssdl_model.specs.ssdl_rules.StoreRules.{BreaksStoreRules}

module _ (raw : RawModel) (never : (fault : Fault) → ¬ BreaksStoreRules raw fault) (i : ℕ) (association : RawAssociation) (here : At raw.associations i association) (constraint : RawConstraint) (is : association.constraint ≡ Some constraint) where
  -- seen from the association, none is broken
  none_of : (fault : Fault) → ¬ IsForeignKeyFault (names_in raw) raw i association fault
  none_of fault broken = never (fault_at fault.rule (Member (codes "Association") ∷ Item i ∷ fault.place))
      (inr (in_list (IsForeignKeyFault (names_in raw) raw) (codes "Association") raw.associations i association fault.rule fault.place here broken))

  -- V24
  fits : ¬ BreaksForeignKey (names_in raw) raw association constraint
  fits broken = none_of (fault_at ForeignKey (Member (codes "ReferentialConstraint") ∷ []))
      (inl ((let P : Option RawConstraint → Type 0 = λ found. MatchOption found ⊥ (BreaksForeignKey (names_in raw) raw association) in subst P (sym is) broken), (refl, refl)))

  -- the principal list is the whole key
  pub whole_key : (t : ℕ) → type_of_role (names_in raw) raw association constraint.principal.role ≡ Some t → HoldsEachOnce (key_names (names_in raw) raw t) constraint.principal.props
  whole_key t found = has_each (key_names (names_in raw) raw t) constraint.principal.props (λ other. fits (inr (inl (λ whole. other
      (let P : Option ℕ → Type 0 = λ found. MatchOption found ⊥ (λ i. HoldsEachOnce (key_names (names_in raw) raw i) constraint.principal.props) in subst P found whole)))))

  -- no dependent column stands twice
  pub dependents_apart : AreApart constraint.dependent.props
  dependents_apart = λ k l d before within same. fits (inr (inr (inl (λ apart. apart k l d before within same))))

  -- the two lists match
  pub types_match : types_of_side (names_in raw) raw column_type association constraint.principal ≡ types_of_side (names_in raw) raw column_type association constraint.dependent
  types_match = same_types (types_of_side (names_in raw) raw column_type association constraint.principal) (types_of_side (names_in raw) raw column_type association constraint.dependent)
      (λ other. fits (inr (inr (inr (inl other)))))

  -- V25
  pub elsewhere : ¬ PointsToItself (names_in raw) raw association constraint
  elsewhere points = none_of (fault_at PointsElsewhere (Member (codes "ReferentialConstraint") ∷ []))
      (inr ((let P : Option RawConstraint → Type 0 = λ found. MatchOption found ⊥ (PointsToItself (names_in raw) raw association) in subst P (sym is) points), (refl, refl)))

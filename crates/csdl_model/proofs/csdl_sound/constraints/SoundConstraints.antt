-- The constraint of an association that the document means is sound. V16 to V18.
use Rattle.std.proofs.Common.{◌≡◌, ◌≢◌, inl, inr, ℕ, ◌<◌, length, List, map, All, Any, Contains, Option, Some, codes, sym, ap, subst, ◌∙◌}
use Rattle.std.specs.List.{filter_map}
use Rattle.emc_base.specs.Lists.{AreApart, HoldsEachOnce}
use Rattle.emc_base.proofs.Mapped.{contains_at}
use Rattle.graphs.proofs.base_chains.orders.Orders.{place_of_member}
use Rattle.edm_types.specs.Forest.{type_numbered}
use Rattle.round_trip.specs.Words.{Assoc, Constraint, End, PropId, TypeId, dependent_end, key_props, principal_end, props_of}
use Rattle.round_trip.specs.soundness.models.Constraints.{DependsByKey, HasConstraintMults, HasMatchedLists, IsSoundConstraint}
use Rattle.round_trip.specs.soundness.Lookups.{IsNeeded}
use Rattle.csdl_names.specs.declared.csdl_lists.raw.RawModel.{RawModel}
use Rattle.csdl_names.specs.declared.csdl_lists.raw.RawRole.{RawRole}
use Rattle.csdl_names.specs.csdl_lists.References.{names_in}
use Rattle.csdl_names.specs.SetRoles.{element_of_role}
use Rattle.csdl_names.specs.Unresolved.{LacksProp, type_of_role}
use Rattle.csdl_types.specs.declared.simple.PropType.{PropType}
use Rattle.csdl_types.specs.Simple.{types_by}
use Rattle.csdl_associations.specs.csdl_constraints.Multiplicities.{BreaksConstraintMults}
use Rattle.csdl_associations.specs.csdl_constraints.Sides.{HasKeyProp, IsNullable, IsWholeKey, key_names, types_of_side}
use Rattle.csdl_meaning.specs.ModelMeaning.{meaning, mult_of, prop_id}
use Rattle.csdl_meaning.proofs.kept.KeptNames.{no_reference}
use Rattle.csdl_model.specs.csdl_sound.SoundMeaning.{KeepsRules}
use Rattle.csdl_model.proofs.csdl_sound.constraints.ConstraintSides.{IsConstrained, IsSideAt}
use Rattle.emc_base.proofs.FoundItems.{some_member}
use Rattle.csdl_model.proofs.csdl_sound.constraints.KeptConstraints.{constraint_mults, dependents_apart, no_other_element, principal_key, types_match}
use Rattle.csdl_model.proofs.csdl_sound.associations.KeptSets.{dependent_element}
use Rattle.csdl_model.proofs.csdl_sound.types.KeyIds.{by_key, ids_apart, never, whole_key}
use Rattle.csdl_model.proofs.csdl_sound.associations.MeantAssocs.{IsMeantBy, association_is, is_named}
use Rattle.csdl_model.proofs.csdl_sound.associations.MeantEnds.{type_inside}
use Rattle.csdl_model.proofs.csdl_sound.associations.Mults.{few_text, not_many, one_text}
use Rattle.csdl_model.proofs.csdl_sound.types.PropIds.{id_found}
use Rattle.csdl_meaning.proofs.types.PropKinds.{kind_named, same_types}
use Rattle.csdl_meaning.proofs.kept.Resolved.{dependent_has, principal_has}
use Rattle.csdl_model.proofs.csdl_sound.constraints.SideFacts.{has_mult, mult_has, of_side, of_type, side_element, side_kinds, side_mult, side_type, to_type}
use Rattle.csdl_model.proofs.csdl_sound.constraints.SideProps.{all_needed, ids_of_type}
use Rattle.emc_base.proofs.Stable.{has_each, same_places}

module _ (raw : RawModel) (keeps : KeepsRules raw) (assoc : Assoc) (by : IsMeantBy raw assoc) (constraint : Constraint) (it : IsConstrained raw assoc by constraint) where
  -- the principal side, and the dependent one
  above : IsSideAt raw by.set by.association it.raw_constraint.principal (principal_end assoc constraint) constraint.principal
  above = it.principal

  below : IsSideAt raw by.set by.association it.raw_constraint.dependent (dependent_end assoc constraint) constraint.dependent
  below = it.dependent

  -- their multiplicities
  principal_mult : (principal_end assoc constraint).mult ≡ mult_of above.raw_end.multiplicity
  principal_mult = side_mult above

  dependent_mult : (dependent_end assoc constraint).mult ≡ mult_of below.raw_end.multiplicity
  dependent_mult = side_mult below

  -- V16 is kept
  fine : ¬ BreaksConstraintMults (names_in raw) raw by.association it.raw_constraint
  fine = constraint_mults raw keeps.constraints by.number by.association by.is_association (is_named raw assoc by) it.raw_constraint it.is_raw

  -- the type of a side is one of the types
  side_inside : {side : RawRole} {end : End} {props : List PropId} (at : IsSideAt raw by.set by.association side end props) → at.there.type < length raw.types
  side_inside at = type_inside raw at.raw_end.ty at.there.type at.there.is_type

  -- a property that isn't lacking has an id
  has_id : {side : RawRole} {end : End} {props : List PropId} (at : IsSideAt raw by.set by.association side end props) (name : List ℕ)
      → ¬ LacksProp (names_in raw) raw name at.there.type → (id : PropId) × (prop_id raw at.there.type name ≡ Some id)
  has_id at name has =
      id_found raw name (λ i type here none. no_reference raw keeps.types.resolves_all i type here none) (never raw keeps.types) at.there.type (side_inside at) has

  -- a side that can't but be the whole key is it by its ids
  whole_side : {side : RawRole} {end : End} {props : List PropId} (at : IsSideAt raw by.set by.association side end props) → ¬ (¬ IsWholeKey (names_in raw) raw by.association side)
      → HoldsEachOnce (key_props (meaning raw) (type_numbered at.there.type)) (filter_map (prop_id raw at.there.type) side.props)
  whole_side {side = side} at whole =
      whole_key raw keeps.types at.there.type (side_inside at) side.props (has_each (key_names (names_in raw) raw at.there.type) side.props (λ not_whole.
      whole (λ holds. not_whole (of_type at (λ i. HoldsEachOnce (key_names (names_in raw) raw i) side.props) holds))))

  -- V18: a key property is among the dependent ones of the document
  pub depends_by_key : DependsByKey (meaning raw) assoc constraint → HasKeyProp (names_in raw) raw by.association it.raw_constraint.dependent
  depends_by_key depends =
      let side = it.dependent in
      let P : TypeId → List PropId → Type 0 = λ t props. Any (Contains (key_props (meaning raw) t)) props in
      to_type side
      (λ i. Any (Contains (key_names (names_in raw) raw i)) it.raw_constraint.dependent.props)
      (by_key raw keeps.types side.there.type (type_inside raw side.raw_end.ty side.there.type side.there.is_type) it.raw_constraint.dependent.props
      (subst (λ t. P t (filter_map (prop_id raw side.there.type) it.raw_constraint.dependent.props)) (side_type side)
      (subst (P (dependent_end assoc constraint).ty) side.are_props depends)))

  -- V16
  sound_mults : HasConstraintMults (meaning raw) assoc constraint
  sound_mults = record {
    principal = λ many. not_many above.raw_end.multiplicity (λ neither. fine (inl (
      (λ one. neither.0 (mult_has above (codes "1") one)),
      (λ few. neither.1 (mult_has above (codes "0..1") few)),
    ))) (sym principal_mult ∙ many);
    one_principal = λ one. let P : List PropId → Type 0 = λ props. All (IsNeeded (meaning raw)) props in
        subst P (sym below.are_props) (all_needed raw below.there.type it.raw_constraint.dependent.props (λ null. fine (inr (inl (
          has_mult above (codes "1") (one_text above.raw_end.multiplicity (sym principal_mult ∙ one)),
          to_type below (λ i. Any (IsNullable (names_in raw) raw i) it.raw_constraint.dependent.props) null,
        )))));
    dependent = λ one. fine (inr (inr (inl (
        has_mult below (codes "1") (one_text below.raw_end.multiplicity (sym dependent_mult ∙ one))))));
    one_dependent = λ few.
        of_side below (λ t props. HoldsEachOnce (key_props (meaning raw) t) props)
        (whole_side below (λ not_whole. fine (inr (inr (inr (
          has_mult below (codes "0..1") (few_text below.raw_end.multiplicity (sym dependent_mult ∙ few)),
          not_whole,
        ))))));
  }

  -- V17
  sound_lists : HasMatchedLists (meaning raw) assoc constraint
  sound_lists = record {
    element = side_element above
        (same_places (element_of_role (names_in raw) raw by.set it.raw_constraint.principal.role) (type_of_role (names_in raw) raw by.association it.raw_constraint.principal.role) (λ other.
        no_other_element raw keeps.constraints by.number by.association by.is_association (is_named raw assoc by) it.raw_constraint it.is_raw
        (some_member (λ set. ((names_in raw).association_named set.association ≡ Some by.number) × (element_of_role (names_in raw) raw set it.raw_constraint.principal.role ≢ type_of_role (names_in raw) raw by.association it.raw_constraint.principal.role))
        raw.container.association_sets by.set (contains_at raw.container.association_sets by.place by.set by.here) (by.named, other))));
    principal = of_side above (λ t props. HoldsEachOnce (key_props (meaning raw) t) props)
        (whole_side above
        (principal_key raw keeps.constraints by.number by.association by.is_association (is_named raw assoc by) it.raw_constraint it.is_raw));
    dependent = of_side below (λ t props. All (Contains (props_of (meaning raw) t)) props)
        (ids_of_type raw below.there.type (never raw keeps.types) (side_inside below) it.raw_constraint.dependent.props);
    once = let P : List PropId → Type 0 = λ props. AreApart props in
        subst P (sym below.are_props) (ids_apart raw keeps.types below.there.type (side_inside below) it.raw_constraint.dependent.props
        (dependents_apart raw keeps.constraints by.number by.association by.is_association (is_named raw assoc by) it.raw_constraint it.is_raw));
    kinds =
        side_kinds above (λ name has.
        has_id above name
        (principal_has raw keeps.types.resolves_all by.number by.association by.is_association it.raw_constraint it.is_raw above.there.type above.of_role has.0 name (place_of_member it.raw_constraint.principal.props name has)))
        ∙ ap (map (λ (type : Option PropType). Some (kind_named raw type)))
        (same_types (types_of_side (names_in raw) raw (types_by (names_in raw)) by.association it.raw_constraint.principal) (types_of_side (names_in raw) raw (types_by (names_in raw)) by.association it.raw_constraint.dependent)
        (types_match raw keeps.constraints by.number by.association by.is_association (is_named raw assoc by) it.raw_constraint it.is_raw))
        ∙ sym (side_kinds below (λ name has.
        has_id below name
        (dependent_has raw keeps.types.resolves_all by.number by.association by.is_association it.raw_constraint it.is_raw below.there.type below.of_role has.0 name (place_of_member it.raw_constraint.dependent.props name has))));
  }

  -- V16 to V18
  pub sound_constraint : IsSoundConstraint (meaning raw) assoc constraint
  sound_constraint = record {
    mults = sound_mults;
    lists = sound_lists;
    element = λ depends.
        side_element it.dependent
        (dependent_element raw keeps.sets by.place by.set by.here by.association (association_is raw assoc by) it.raw_constraint it.is_raw (depends_by_key depends));
  }

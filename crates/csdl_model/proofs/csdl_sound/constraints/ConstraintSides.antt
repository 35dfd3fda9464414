-- The two sides of a constraint that the document means: at which ends they stand, and which properties they name. V17.
use Rattle.std.proofs.Common.{◌≡◌, ◌≢◌, ◌⊎◌, ⊎_elim, inl, inr, ℕ, Bool, true, false, List, [], ◌∷◌, map, Contains, Option, Some, if◌then◌else◌, sym, ap, subst, ◌∙◌}
use Rattle.std.specs.List.{filter_map}
use Rattle.std.specs.Option.{option_map_or}
use Rattle.std.specs.Str.{bytes_eq}
use Rattle.std.proofs.lemmas.Bool.{false_from_ne_true}
use Rattle.std.proofs.lemmas.Slice.Eq.{bytes_eq-Decides}
use Rattle.std.proofs.lemmas.List.Elements.{All-contains}
use Rattle.emc_base.specs.Lists.{At, HoldsEachOnce}
use Rattle.emc_base.proofs.Members.{apart_head, contains_cons_cases, contains_head, contains_nil, contains_tail}
use Rattle.round_trip.specs.Words.{Assoc, Constraint, End, PropId, dependent_end, principal_end}
use Rattle.csdl_names.specs.declared.csdl_lists.raw.RawAssociation.{RawAssociation}
use Rattle.csdl_names.specs.declared.csdl_lists.raw.RawAssociationSet.{RawAssociationSet}
use Rattle.csdl_names.specs.declared.csdl_lists.raw.RawConstraint.{RawConstraint}
use Rattle.csdl_names.specs.declared.csdl_lists.raw.RawEnd.{RawEnd}
use Rattle.csdl_names.specs.declared.csdl_lists.raw.RawModel.{RawModel}
use Rattle.csdl_names.specs.declared.csdl_lists.raw.RawRole.{RawRole}
use Rattle.csdl_names.specs.csdl_lists.References.{names_in}
use Rattle.csdl_names.specs.Unresolved.{type_of_role}
use Rattle.csdl_meaning.specs.ModelMeaning.{constraint_of, end_of, prop_id, props_of_side}
use Rattle.emc_base.proofs.FoundItems.{map_some}
use Rattle.csdl_model.specs.csdl_sound.SoundMeaning.{KeepsRules}
use Rattle.csdl_model.proofs.csdl_sound.constraints.KeptConstraints.{two_roles}
use Rattle.csdl_model.proofs.csdl_sound.associations.MeantAssocs.{IsMeantBy, first_at, is_named, second_at}
use Rattle.csdl_model.proofs.csdl_sound.associations.MeantEnds.{IsEndAt, end_at, type_by_role}

-- a side of a constraint stands at this end of the model, which an end of the association means, and has these properties
pub record IsSideAt (raw : RawModel) (set : RawAssociationSet) (association : RawAssociation) (side : RawRole) (end : End) (props : List PropId) : Type 0 where
  pub k : ℕ
  pub raw_end : RawEnd
  pub at : At association.ends k raw_end
  pub there : IsEndAt raw set association raw_end
  pub same_role : side.role ≡ raw_end.role
  pub is_end : end ≡ end_of raw set raw_end
  pub of_role : type_of_role (names_in raw) raw association side.role ≡ Some there.type
  pub are_props : props ≡ filter_map (prop_id raw there.type) side.props

-- the constraint of an association of the model, by that of the document
pub record IsConstrained (raw : RawModel) (assoc : Assoc) (by : IsMeantBy raw assoc) (constraint : Constraint) : Type 0 where
  pub raw_constraint : RawConstraint
  pub is_raw : by.association.constraint ≡ Some raw_constraint
  pub principal : IsSideAt raw by.set by.association raw_constraint.principal (principal_end assoc constraint) constraint.principal
  pub dependent : IsSideAt raw by.set by.association raw_constraint.dependent (dependent_end assoc constraint) constraint.dependent

-- one of two names
one_of_two : (one other name : List ℕ) → Contains (one ∷ other ∷ []) name → (name ≡ one) ⊎ (name ≡ other)
one_of_two one other name has = ⊎_elim
    (λ (first : name ≡ one). inl first)
    (λ (later : Contains (other ∷ []) name). ⊎_elim
    (λ (second : name ≡ other). inr second)
    (λ (none : Contains [] name). absurd (contains_nil name none))
    (contains_cons_cases other [] name later))
    (contains_cons_cases one (other ∷ []) name has)

-- the roles of the two sides are those of the two ends: the one way or the other
roles_are : (first second principal dependent : List ℕ) → HoldsEachOnce (first ∷ second ∷ []) (principal ∷ dependent ∷ [])
    → ((dependent ≡ first) × (principal ≡ second)) ⊎ ((dependent ≢ first) × (dependent ≡ second) × (principal ≡ first))
roles_are first second principal dependent holds = by
    (one_of_two first second dependent (All-contains (Contains (first ∷ second ∷ [])) (principal ∷ dependent ∷ []) dependent holds.only (contains_tail principal (dependent ∷ []) dependent (contains_head dependent []))))
    (one_of_two first second principal (All-contains (Contains (first ∷ second ∷ [])) (principal ∷ dependent ∷ []) principal holds.only (contains_head principal (dependent ∷ []))))
  where
    differ : principal ≢ dependent
    differ same = apart_head principal (dependent ∷ []) holds.once (let P : List ℕ → Type 0 = λ name. Contains (dependent ∷ []) name in subst P (sym same) (contains_head dependent []))

    by : (dependent ≡ first) ⊎ (dependent ≡ second) → (principal ≡ first) ⊎ (principal ≡ second)
        → ((dependent ≡ first) × (principal ≡ second)) ⊎ ((dependent ≢ first) × (dependent ≡ second) × (principal ≡ first))
    by (inl one) (inl other) = absurd (differ (other ∙ sym one))
    by (inl one) (inr other) = inl (one, other)
    by (inr one) (inl other) = inr ((λ first_too. differ (other ∙ sym first_too)), one, other)
    by (inr one) (inr other) = absurd (differ (other ∙ sym one))

module _ (raw : RawModel) (keeps : KeepsRules raw) (assoc : Assoc) (by : IsMeantBy raw assoc) where
  -- a side that has the role of an end stands there
  side_at : (side : RawRole) (k : ℕ) (raw_end : RawEnd) → At by.association.ends k raw_end → side.role ≡ raw_end.role → (end : End) → end ≡ end_of raw by.set raw_end
      → IsSideAt raw by.set by.association side end (props_of_side raw by.association side)
  side_at side k raw_end at same end is =
      let there = end_at raw keeps assoc by k raw_end at in
      let of_role = ap (type_of_role (names_in raw) raw by.association) same ∙ type_by_role raw by.set by.association raw_end there in
      record {
        k = k;
        raw_end = raw_end;
        at = at;
        there = there;
        same_role = same;
        is_end = is;
        of_role = of_role;
        are_props = ap (λ (found : Option ℕ). option_map_or (λ i. filter_map (prop_id raw i) side.props) found []) of_role;
      }

  -- both sides
  pub constrained : (constraint : Constraint) → assoc.constraint ≡ Some constraint → IsConstrained raw assoc by constraint
  constrained constraint is =
      let found = map_some (constraint_of raw by.association by.first) by.association.constraint constraint (sym (ap (λ (assoc : Assoc). assoc.constraint) by.is) ∙ is) in
      let P : Constraint → Type 0 = λ constraint. IsConstrained raw assoc by constraint in
      let Q : List (List ℕ) → Type 0 = λ roles. HoldsEachOnce roles (found.0.principal.role ∷ found.0.dependent.role ∷ []) in
      subst P found.2 (sides found.0 found.1 (roles_are by.first.role by.second.role found.0.principal.role found.0.dependent.role
      (subst Q (ap (map (λ (end : RawEnd). end.role)) by.two) (two_roles raw keeps.constraints by.number by.association by.is_association (is_named raw assoc by) found.0 found.1))))
    where
      sides : (raw_constraint : RawConstraint) → by.association.constraint ≡ Some raw_constraint
          → ((raw_constraint.dependent.role ≡ by.first.role) × (raw_constraint.principal.role ≡ by.second.role))
          ⊎ ((raw_constraint.dependent.role ≢ by.first.role) × (raw_constraint.dependent.role ≡ by.second.role) × (raw_constraint.principal.role ≡ by.first.role))
          → IsConstrained raw assoc by (constraint_of raw by.association by.first raw_constraint)
      sides raw_constraint is_raw (inl roles) =
          let first : bytes_eq raw_constraint.dependent.role by.first.role ≡ true = (bytes_eq-Decides raw_constraint.dependent.role by.first.role).1 roles.0 in
          record {
            raw_constraint = raw_constraint;
            is_raw = is_raw;
            principal = side_at raw_constraint.principal 1 by.second (second_at raw assoc by) roles.1 (principal_end assoc (constraint_of raw by.association by.first raw_constraint))
                (ap (λ (b : Bool). if b then assoc.second else assoc.first) first ∙ ap (λ (assoc : Assoc). assoc.second) by.is);
            dependent = side_at raw_constraint.dependent 0 by.first (first_at raw assoc by) roles.0 (dependent_end assoc (constraint_of raw by.association by.first raw_constraint))
                (ap (λ (b : Bool). if b then assoc.first else assoc.second) first ∙ ap (λ (assoc : Assoc). assoc.first) by.is);
          }
      sides raw_constraint is_raw (inr roles) =
          let second : bytes_eq raw_constraint.dependent.role by.first.role ≡ false =
          false_from_ne_true (bytes_eq raw_constraint.dependent.role by.first.role) (λ first. roles.0 ((bytes_eq-Decides raw_constraint.dependent.role by.first.role).0 first)) in
          record {
            raw_constraint = raw_constraint;
            is_raw = is_raw;
            principal = side_at raw_constraint.principal 0 by.first (first_at raw assoc by) roles.2 (principal_end assoc (constraint_of raw by.association by.first raw_constraint))
                (ap (λ (b : Bool). if b then assoc.second else assoc.first) second ∙ ap (λ (assoc : Assoc). assoc.first) by.is);
            dependent = side_at raw_constraint.dependent 1 by.second (second_at raw assoc by) roles.1 (dependent_end assoc (constraint_of raw by.association by.first raw_constraint))
                (ap (λ (b : Bool). if b then assoc.first else assoc.second) second ∙ ap (λ (assoc : Assoc). assoc.second) by.is);
          }

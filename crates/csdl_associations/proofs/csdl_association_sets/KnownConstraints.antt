-- What holds of the constraint of an association set, by what is known of it.
use Rattle.std.proofs.Common.{◌≡◌, ◌≢◌, ◌↔◌, ℕ, ◌<◌, List, length, arith, IsTrue, not, Bool, false, Bor, MatchOption, Option, Some, None, refl, sym, ap, subst, subst₂, ◌∙◌}
use Rattle.std.specs.Option.{option_and_then}
use Rattle.std.proofs.lemmas.Bool.{both_ways, false_from_ne_true, not-true}
use Rattle.std.proofs.lemmas.Option.{none-some, same_Some, slice_get_within}
use Rattle.emc_base.specs.Lists.{At}
use Rattle.emc_base.proofs.Lists.{item_at}
use Rattle.graphs.specs.declared.arrow_cycles.arrow.Arrow.{Arrow}
use Rattle.graphs.specs.base_chains.Chains.{IsUpFrom}
use Rattle.csdl_names.specs.declared.csdl_lists.raw.RawAssociation.{RawAssociation}
use Rattle.csdl_names.specs.declared.csdl_lists.raw.RawAssociationSet.{RawAssociationSet}
use Rattle.csdl_names.specs.declared.csdl_lists.raw.RawConstraint.{RawConstraint}
use Rattle.csdl_names.specs.declared.csdl_lists.raw.RawModel.{RawModel}
use Rattle.csdl_names.specs.declared.csdl_lists.raw.RawSetEnd.{RawSetEnd}
use Rattle.csdl_names.specs.csdl_lists.References.{base_of, names_in}
use Rattle.csdl_names.specs.SetRoles.{set_of_role}
use Rattle.csdl_names.specs.Unresolved.{association_of, type_of_role}
use Rattle.csdl_associations.specs.declared.csdl_constraints.dependent.Dependent.{Dependent}
use Rattle.csdl_associations.specs.csdl_constraints.Sides.{HasKeyProp, HasNullable}
use Rattle.csdl_associations.specs.csdl_constraints.Told.{AreToldOf, IsToldOf, TellsDependent}
use Rattle.csdl_associations.specs.declared.csdl_association_sets.constraints.SetConstraint.{SetConstraint}
use Rattle.csdl_associations.specs.csdl_association_sets.SetArrows.{IsArrowOf, LeadsBetween}
use Rattle.csdl_associations.specs.csdl_association_sets.SetEnds.{HasOtherDependent, HasOtherType, OfConstraint}
use Rattle.csdl_associations.specs.csdl_association_sets.Told.{BreaksDependent, HasOtherElement, IsArrowIn, IsKnownOf, constraint_of, element_at}

-- what is said of something that may be there is said of it
pub of_some : {X : Type 0} (o : Option X) (P : X → Type 0) → MatchOption o ⊥ P → (x : X) × (o ≡ Some x) × P x
of_some None P none = absurd none
of_some (Some x) P holds = (x, refl, holds)

-- no, where a test says yes
pub not_by : {P : Type 0} (answer : Bool) → (IsTrue answer ↔ P) → (IsTrue (not answer) ↔ (¬ P))
not_by answer tells = (
  λ opposite holds. both_ways answer (not-true answer opposite) (tells.1 holds),
  λ never. ap not (false_from_ne_true answer (λ yes. never (tells.0 yes))),
)

-- whether two places differ, by whether equal ones do
pub differ_by : (answer : Bool) (one other a b : Option ℕ) → (IsTrue answer ↔ (one ≡ other)) → one ≡ a → other ≡ b → (IsTrue (not answer) ↔ (a ≢ b))
differ_by answer one other a b tells first second =
    not_by answer (λ yes. sym first ∙ tells.0 yes ∙ second, λ same. tells.1 (first ∙ same ∙ sym second))

module _ (model : RawModel) (set : RawAssociationSet) where
  -- without a constraint nothing is said of one
  pub without : constraint_of model set ≡ None → (P : RawAssociation → RawConstraint → Type 0) → ¬ OfConstraint (names_in model) model set P
  without none P some =
      let association = of_some (association_of (names_in model) model set.association) (λ a. MatchOption a.constraint ⊥ (P a)) some in
      let constraint = of_some association.0.constraint (P association.0) association.2 in
      none-some constraint.0 (sym none ∙ ap (option_and_then (λ (a : RawAssociation). a.constraint)) association.1 ∙ constraint.1)

  -- what is told of the place of an association is told of it
  pub told_there : (told : List (Option Dependent)) → AreToldOf (names_in model) model model.associations told → (place : ℕ) (association : RawAssociation)
      → At model.associations place association → (found : Option Dependent) → ((known : Option Dependent) → At told place known → found ≡ known)
      → IsToldOf (names_in model) model association found
  told_there told are place association here found tells =
      let inside : place < length model.associations = slice_get_within model.associations place association here in
      let alike : length told ≡ length model.associations = are.alike in
      let item = item_at told place (let within : place < length told = omega (arith, inside, alike) in within) in
      let Told : Option Dependent → Type 0 = λ o. IsToldOf (names_in model) model association o in
      subst Told (sym (tells item.0 item.1)) (are.each place association item.0 here item.1)

  -- what is known of an association with its constraint and its place
  pub known_from : (association : Bor RawAssociation) (constraint : Bor RawConstraint) (dependent : Dependent)
      → association_of (names_in model) model set.association ≡ Some association.now → association.now.constraint ≡ Some constraint.now
      → TellsDependent (names_in model) model association.now dependent → IsKnownOf model set (record { association = association; constraint = constraint; dependent = dependent })
  known_from association constraint dependent here is told =
      let same : told.constraint ≡ constraint.now = same_Some told.constraint constraint.now (sym told.is ∙ is) in
      let Key : RawConstraint → Type 0 = λ one. IsTrue dependent.has_key_prop ↔ HasKeyProp (names_in model) model association.now one.dependent in
      let Null : RawConstraint → Type 0 = λ one. IsTrue dependent.has_nullable ↔ HasNullable (names_in model) model association.now one.dependent in
      record { association = here; constraint = is; by_key = subst Key same told.key_prop; nullable = subst Null same told.nullable }

  module _ (known : SetConstraint) (is : IsKnownOf model set known) where
    abbrev association : RawAssociation
    association = known.association.now

    abbrev constraint : RawConstraint
    constraint = known.constraint.now

    -- what is said of the constraint is said of the one that is known
    pub of_known : (P : RawAssociation → RawConstraint → Type 0) → OfConstraint (names_in model) model set P → P association constraint
    of_known P some =
        let Found : Option RawAssociation → Type 0 = λ o. MatchOption o ⊥ (λ a. MatchOption a.constraint ⊥ (P a)) in
        let Has : Option RawConstraint → Type 0 = λ o. MatchOption o ⊥ (P association) in
        subst Has is.constraint (subst Found is.association some)

    -- and back
    pub known_of : (P : RawAssociation → RawConstraint → Type 0) → P association constraint → OfConstraint (names_in model) model set P
    known_of P holds =
        let Found : Option RawAssociation → Type 0 = λ o. MatchOption o ⊥ (λ a. MatchOption a.constraint ⊥ (P a)) in
        let Has : Option RawConstraint → Type 0 = λ o. MatchOption o ⊥ (P association) in
        subst Found (sym is.association) (subst Has (sym is.constraint) holds)

    leads : (from to : ℕ) → IsArrowOf (names_in model) model set from to → LeadsBetween (names_in model) model set from to association constraint
    leads from to arrow = of_known (LeadsBetween (names_in model) model set from to) arrow

    -- no entity set is found at the Dependent's end
    pub no_dependent : set_of_role (names_in model) model set constraint.dependent.role ≡ None → (found : Option Arrow) → found ≡ None → IsArrowIn model set found
    no_dependent none found empty from to =
        (λ some. absurd (none-some _ (sym empty ∙ some)), λ arrow. absurd (none-some from (sym none ∙ (leads from to arrow).dependent)))

    -- none is found at the Principal's end
    pub no_principal : set_of_role (names_in model) model set constraint.principal.role ≡ None → (found : Option Arrow) → found ≡ None → IsArrowIn model set found
    no_principal none found empty from to =
        (λ some. absurd (none-some _ (sym empty ∙ some)), λ arrow. absurd (none-some to (sym none ∙ (leads from to arrow).principal)))

    -- the constraint decides no part of a key
    pub no_decision : ¬ (IsTrue known.dependent.has_key_prop × (¬ IsTrue known.dependent.has_nullable)) → (found : Option Arrow) → found ≡ None → IsArrowIn model set found
    no_decision never found empty from to = (
      λ some. absurd (none-some _ (sym empty ∙ some)),
      λ arrow. let decides = (leads from to arrow).decides in absurd (never (is.by_key.1 decides.by_key, λ null. decides.needed (is.nullable.0 null))),
    )

    -- it decides one, and both are found
    pub an_arrow : IsTrue known.dependent.has_key_prop × (¬ IsTrue known.dependent.has_nullable) → (f t : ℕ)
        → set_of_role (names_in model) model set constraint.dependent.role ≡ Some f → set_of_role (names_in model) model set constraint.principal.role ≡ Some t
        → IsArrowIn model set (Some (record { from = f; to = t }))
    an_arrow decides f t dependent principal from to = (
      λ some.
          let same : record { from = f; to = t } ≡ record { from = from; to = to } = same_Some _ _ some in
          known_of (LeadsBetween (names_in model) model set from to) (record {
            decides = record { by_key = is.by_key.0 decides.0; needed = λ null. decides.1 (is.nullable.1 null) };
            dependent = dependent ∙ ap (λ (arrow : Arrow). Some arrow.from) same;
            principal = principal ∙ ap (λ (arrow : Arrow). Some arrow.to) same;
          }),
      λ arrow.
          let way = leads from to arrow in
          let first : f ≡ from = same_Some f from (sym dependent ∙ way.dependent) in
          let last : t ≡ to = same_Some t to (sym principal ∙ way.principal) in
          λ i. Some (record { from = first i; to = last i }),
    )

    -- V18, by what is known
    pub breaks_dependent : (answer : Bool) → (IsTrue answer ↔ HasOtherElement model set association constraint.dependent.role) → IsTrue known.dependent.has_key_prop
        → (IsTrue answer ↔ BreaksDependent model set)
    breaks_dependent answer tells key = (
      λ yes. known_of (HasOtherDependent (names_in model) model set) (is.by_key.0 key, tells.0 yes),
      λ breaks. tells.1 (of_known (HasOtherDependent (names_in model) model set) breaks).1,
    )

    -- without a property of the key it isn't broken
    pub keeps_dependent : known.dependent.has_key_prop ≡ false → ¬ BreaksDependent model set
    keeps_dependent without_key breaks = both_ways known.dependent.has_key_prop without_key (is.by_key.1 (of_known (HasOtherDependent (names_in model) model set) breaks).0)

-- V20 of an end, whose type and element type are found
pub other_type : (model : RawModel) (of_ends : RawAssociation) (end : RawSetEnd) (i j : ℕ) (answer : Bool)
    → type_of_role (names_in model) model of_ends end.role ≡ Some i → element_at model end ≡ Some j
    → (IsTrue answer ↔ IsUpFrom (base_of (names_in model) model) i j) → (IsTrue (not answer) ↔ HasOtherType (names_in model) model of_ends end)
other_type model of_ends end i j answer type element tells =
    let Told : Option ℕ → Option ℕ → Type 0 = λ a b. IsTrue (not answer) ↔ MatchOption a ⊥ (λ k. MatchOption b ⊥ (λ l. ¬ IsUpFrom (base_of (names_in model) model) k l)) in
    subst₂ Told (sym type) (sym element) (not_by answer tells)

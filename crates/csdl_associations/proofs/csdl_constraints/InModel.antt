-- Marks of the associations of a model, and what is wrong with them by such marks.
use Rattle.std.proofs.Common.{◌≡◌, ◌↔◌, ◌⊎◌, inl, inr, ℕ, List, length, Any, MatchOption, Option, Some, None, Bool, true, codes, sym, subst, subst₂}
use Rattle.emc_base.specs.Lists.{At}
use Rattle.groupings.specs.least_fault.Least.{IsLeast}
use Rattle.groupings.proofs.least_fault.Leasts.{least_same}
use Rattle.layouts.specs.declared.fault.Fault.{Fault}
use Rattle.layouts.specs.Faults.{fault_cmp}
use Rattle.layouts.specs.rule_places.Places.{InList}
use Rattle.layouts.proofs.rule_places.Rules.{in_list_at}
use Rattle.csdl_names.specs.declared.csdl_lists.raw.RawAssociation.{RawAssociation}
use Rattle.csdl_names.specs.declared.csdl_lists.raw.RawAssociationSet.{RawAssociationSet}
use Rattle.csdl_names.specs.declared.csdl_lists.raw.RawConstraint.{RawConstraint}
use Rattle.csdl_names.specs.declared.csdl_lists.raw.RawModel.{RawModel}
use Rattle.csdl_names.specs.csdl_lists.References.{names_in}
use Rattle.csdl_names.proofs.csdl_lists.Within.{association_within}
use Rattle.csdl_types.specs.Simple.{types_by}
use Rattle.csdl_associations.specs.csdl_constraints.Answered.{AreNamed, AreOfOther, IsFaultBy, IsMarkedFault}
use Rattle.csdl_associations.specs.csdl_constraints.Constraints.{BreaksConstraintRules, BreaksLists, BreaksListsIn, IsAssociationFault, IsOfOther, MarksOther}
use Rattle.csdl_associations.specs.csdl_constraints.Marks.{AreMarks, AreMarksBelow}
use Rattle.csdl_associations.proofs.csdl_constraints.Marking.{any_at, any_same, marks_whole}

module _ (model : RawModel) where
  -- the set names the association at a place
  abbrev Names : RawAssociationSet → ℕ → Type 0
  Names set i = (names_in model).association_named set.association ≡ Some i

  -- marks of places by sets that name them are those of the model
  pub marks_in_model : (R : RawAssociationSet → ℕ → Type 0) → ((set : RawAssociationSet) (i : ℕ) → R set i → Names set i)
      → (sets : List RawAssociationSet) (count : ℕ) (marks : List Bool) → sets ≡ model.container.association_sets → count ≡ length model.associations
      → AreMarksBelow (λ i. Any (λ set. R set i) sets) count marks → AreMarks (λ i. Any (λ set. R set i) model.container.association_sets) (length model.associations) marks
  marks_in_model R names sets count marks all counted below =
      let Of : List RawAssociationSet → ℕ → Type 0 = λ xs n. AreMarksBelow (λ i. Any (λ set. R set i) xs) n marks in
      let P : ℕ → Type 0 = λ i. Any (λ set. R set i) model.container.association_sets in
      marks_whole P P (length model.associations) marks (λ i holds. holds) (λ i holds. holds)
      (λ i holds. let found = any_at (λ set. R set i) model.container.association_sets holds in association_within model found.1.association i (names found.1 i found.3))
      (subst₂ Of all counted below)

-- the last of five
fifth : {A B C D E F : Type 0} → (E → F) → A ⊎ B ⊎ C ⊎ D ⊎ E → A ⊎ B ⊎ C ⊎ D ⊎ F
fifth to (inl a) = inl a
fifth to (inr (inl b)) = inr (inl b)
fifth to (inr (inr (inl c))) = inr (inr (inl c))
fifth to (inr (inr (inr (inl d)))) = inr (inr (inr (inl d)))
fifth to (inr (inr (inr (inr e)))) = inr (inr (inr (inr (to e))))

-- the last of five, where the others aren't so
pub last_of_five : {A B C D E : Type 0} → ¬ A → ¬ B → ¬ C → ¬ D → A ⊎ B ⊎ C ⊎ D ⊎ E → E
last_of_five not_a not_b not_c not_d (inl a) = absurd (not_a a)
last_of_five not_a not_b not_c not_d (inr (inl b)) = absurd (not_b b)
last_of_five not_a not_b not_c not_d (inr (inr (inl c))) = absurd (not_c c)
last_of_five not_a not_b not_c not_d (inr (inr (inr (inl d)))) = absurd (not_d d)
last_of_five not_a not_b not_c not_d (inr (inr (inr (inr e)))) = e

module _ (model : RawModel) (association : RawAssociation) where
  -- what is so by one reason is so by an equal one
  unlike_to : (o : Option RawConstraint) (A B : Type 0) → (A → B) → MatchOption o ⊥ (λ c. BreaksListsIn model (types_by (names_in model)) association c A)
      → MatchOption o ⊥ (λ c. BreaksListsIn model (types_by (names_in model)) association c B)
  unlike_to None A B to never = never
  unlike_to (Some c) A B to holds = fifth to holds

  pub fault_to : (A B : Type 0) → (A → B) → (fault : Fault) → IsFaultBy model association A fault → IsFaultBy model association B fault
  fault_to A B to fault (inl mults) = inl mults
  fault_to A B to fault (inr lists) = inr (unlike_to association.constraint A B to lists.0, lists.1)

  -- an association set has another element type, where there is a constraint
  module _ (a : ℕ) where
    abbrev N : RawAssociationSet → Type 0
    N set = (names_in model).association_named set.association ≡ Some a

    abbrev F : RawConstraint → RawAssociationSet → Type 0
    F = IsOfOther (names_in model) model association

    unlike_lists : (o : Option RawConstraint)
        → MatchOption o ⊥ (λ c. BreaksListsIn model (types_by (names_in model)) association c (Any (λ set. N set × MatchOption o ⊥ (λ d. F d set)) model.container.association_sets))
        → MatchOption o ⊥ (BreaksLists (names_in model) model a association)
    unlike_lists None never = never
    unlike_lists (Some c) holds = holds

    lists_unlike : (o : Option RawConstraint) → MatchOption o ⊥ (BreaksLists (names_in model) model a association)
        → MatchOption o ⊥ (λ c. BreaksListsIn model (types_by (names_in model)) association c (Any (λ set. N set × MatchOption o ⊥ (λ d. F d set)) model.container.association_sets))
    lists_unlike None never = never
    lists_unlike (Some c) holds = holds

    -- what the sets mark of the association at its place
    abbrev Others : Type 0
    Others = Any (λ set. N set × MatchOption association.constraint ⊥ (λ c. F c set)) model.container.association_sets

    others_to : At model.associations a association → Any (λ set. MarksOther (names_in model) model set a) model.container.association_sets → Others
    others_to here = any_same (λ set. MarksOther (names_in model) model set a) model.container.association_sets (λ set. N set × MatchOption association.constraint ⊥ (λ c. F c set))
        (λ set holds.
        let P : Option RawAssociation → Type 0 = λ o. MatchOption o ⊥ (λ other. MatchOption other.constraint ⊥ (λ c. IsOfOther (names_in model) model other c set)) in
        (holds.0, subst P here holds.1))

    others_back : At model.associations a association → Others → Any (λ set. MarksOther (names_in model) model set a) model.container.association_sets
    others_back here = any_same (λ set. N set × MatchOption association.constraint ⊥ (λ c. F c set)) model.container.association_sets (λ set. MarksOther (names_in model) model set a)
        (λ set holds.
        let P : Option RawAssociation → Type 0 = λ o. MatchOption o ⊥ (λ other. MatchOption other.constraint ⊥ (λ c. IsOfOther (names_in model) model other c set)) in
        (holds.0, subst P (sym here) holds.1))

    module _ (named others : List Bool) (are_named : AreNamed model named) (are_others : AreOfOther model others) (here : At model.associations a association) where
      -- by the marks, and by the rules
      pub marked_to : (fault : Fault) → IsMarkedFault model named others a fault → IsAssociationFault (names_in model) model a association fault
      marked_to fault marked =
          let P : Option RawAssociation → Type 0 = λ o. MatchOption o ⊥ (λ other. IsFaultBy model other (At others a true) fault) in
          by (fault_to (At others a true) Others (λ at. others_to here ((are_others.each a).0 at)) fault (subst P here marked.1))
        where
          by : IsFaultBy model association Others fault → IsAssociationFault (names_in model) model a association fault
          by (inl mults) = inl (((are_named.each a).0 marked.0, mults.0), mults.1)
          by (inr lists) = inr (((are_named.each a).0 marked.0, unlike_lists association.constraint lists.0), lists.1)

      pub marked_back : (fault : Fault) → IsAssociationFault (names_in model) model a association fault → IsMarkedFault model named others a fault
      marked_back fault (inl mults) =
          let P : Option RawAssociation → Type 0 = λ o. MatchOption o ⊥ (λ other. IsFaultBy model other (At others a true) fault) in
          ((are_named.each a).1 mults.0.0, subst P (sym here) (inl (mults.0.1, mults.1)))
      marked_back fault (inr lists) =
          let P : Option RawAssociation → Type 0 = λ o. MatchOption o ⊥ (λ other. IsFaultBy model other (At others a true) fault) in (
            (are_named.each a).1 lists.0.0,
            subst P (sym here)
                (fault_to Others (At others a true) (λ holds. (are_others.each a).1 (others_back here holds)) fault
                (inr (lists_unlike association.constraint lists.0.1, lists.1))),
          )

-- the least by marks is the least by the rules
pub least_by_marks : (model : RawModel) (named others : List Bool) (found : Option Fault) → AreNamed model named → AreOfOther model others
    → IsLeast fault_cmp (InList (codes "Association") (λ i item. IsMarkedFault model named others i) model.associations) found
    → IsLeast fault_cmp (BreaksConstraintRules model) found
least_by_marks model named others found are_named are_others =
    let Marked : ℕ → RawAssociation → Fault → Type 0 = λ i item. IsMarkedFault model named others i in
    let Broken : ℕ → RawAssociation → Fault → Type 0 = IsAssociationFault (names_in model) model in
    least_same fault_cmp (InList (codes "Association") Marked model.associations) (BreaksConstraintRules model) found
    (in_list_at (codes "Association") Marked Broken model.associations (λ i item here. marked_to model item i named others are_named are_others here))
    (in_list_at (codes "Association") Broken Marked model.associations (λ i item here. marked_back model item i named others are_named are_others here))

-- the least of the association at a marked place
pub marked_least : (model : RawModel) (named others : List Bool) (i : ℕ) (association : RawAssociation) (B : Type 0) (found : Option Fault)
    → At named i true → At model.associations i association → (B ↔ At others i true) → IsLeast fault_cmp (IsFaultBy model association B) found
    → IsLeast fault_cmp (IsMarkedFault model named others i) found
marked_least model named others i association B found marked here same =
    let P : Fault → Option RawAssociation → Type 0 = λ fault o. MatchOption o ⊥ (λ other. IsFaultBy model other (At others i true) fault) in
    least_same fault_cmp (IsFaultBy model association B) (IsMarkedFault model named others i) found
    (λ fault holds. (marked, subst (P fault) (sym here) (fault_to model association B (At others i true) same.0 fault holds)))
    (λ fault holds. fault_to model association (At others i true) B same.1 fault (subst (P fault) here holds.1))

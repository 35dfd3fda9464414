-- The classes keep V14 to V20.
use Rattle.std.proofs.Common.{◌≡◌, ◌≢◌, ◌⊎◌, ⊎_elim, inl, inr, ℕ, true, false, List, [], ◌∷◌, Some, codes, refl, sym, subst, arith, ◌∙◌}
use Rattle.std.specs.Str.{bytes_eq}
use Rattle.std.proofs.lemmas.Bool.{both_ways}
use Rattle.std.proofs.lemmas.Option.{same_Some}
use Rattle.std.proofs.lemmas.Slice.Eq.{bytes_eq-Decides}
use Rattle.json_form.specs.declared.pointer.Step.TheVariants.{Member}
use Rattle.layouts.specs.declared.fault.Fault.{Fault}
use Rattle.graphs.specs.arrow_cycles.Arrows.{Leads, arrow, further}
use Rattle.csdl_names.specs.declared.csdl_lists.raw.RawAssociationSet.{RawAssociationSet}
use Rattle.csdl_names.specs.csdl_lists.References.{Names, names_in}
use Rattle.csdl_names.specs.SetRoles.{element_of_role}
use Rattle.csdl_names.specs.Unresolved.{type_of_role}
use Rattle.csdl_associations.specs.csdl_constraints.Constraints.{BreaksConstraintRules, BreaksLists, IsAssociationFault}
use Rattle.csdl_associations.specs.csdl_constraints.Multiplicities.{BreaksConstraintMults, BreaksFreeMults}
use Rattle.csdl_associations.specs.csdl_constraints.Sides.{IsNullable}
use Rattle.csdl_associations.specs.csdl_association_sets.Concrete.{HasConcrete, IsElementFault, IsEndTypeFault, IsEndsFault}
use Rattle.csdl_associations.specs.csdl_association_sets.SetArrows.{IsArrow, IsArrowOf, IsOnCircle}
use Rattle.csdl_associations.specs.csdl_association_sets.SetEnds.{HasOtherType}
use Rattle.csdl_associations.specs.csdl_association_sets.SetRules.{BreaksSetRules, IsContainerFault, IsSetFault}
use Rattle.layouts.proofs.rule_places.NoFaults.{none_in, none_under}
use Rattle.groupings.proofs.name_places.ByTests.{differ_tells, each_once, none_of_two}
use Rattle.csdl_model.specs.csdl_sound.Classes.{classes, gives, giving, helping, helps, lessons, teacher_of_lesson, teachers}

-- what names stand for
abbrev names : Names
names = names_in classes

-- texts that differ
other_text : (one other : List ℕ) → bytes_eq one other ≡ false → ¬ (Some one ≡ Some other)
other_text one other differ same = both_ways (bytes_eq one other) differ ((bytes_eq-Decides one other).1 (same_Some one other same))

-- V16
gives_mults : ¬ BreaksConstraintMults names classes gives teacher_of_lesson
gives_mults = ⊎_elim (λ neither. neither.0 refl) (⊎_elim
    (λ null. none_of_two (IsNullable names classes 2) (codes "GivenBy") (codes "School") (λ is. let it : false ≡ true = is in absurd cc) (λ is. let it : false ≡ true = is in absurd cc) null.1)
    (⊎_elim
    (λ one. other_text (codes "*") (codes "1") refl one)
    (λ few. other_text (codes "*") (codes "0..1") refl few.0)))

helps_mults : ¬ BreaksFreeMults helps.ends
helps_mults = ⊎_elim (λ one. other_text (codes "0..1") (codes "1") refl (λ k. Some (one.0 k))) (λ one. other_text (codes "*") (codes "1") refl (λ k. Some (one.0 k)))

-- V17
gives_lists : ¬ BreaksLists names classes 0 gives teacher_of_lesson
gives_lists = ⊎_elim
    (λ other. other (each_once (codes "Lesson" ∷ codes "Giver" ∷ []) (codes "Giver" ∷ codes "Lesson" ∷ []) refl refl refl))
    (⊎_elim
    (λ other. other (each_once (codes "School" ∷ codes "Number" ∷ []) (codes "Number" ∷ codes "School" ∷ []) refl refl refl))
    (⊎_elim
    (λ twice. twice (differ_tells (λ name. name) (codes "GivenBy" ∷ codes "School" ∷ []) refl))
    (⊎_elim
    (λ other. other refl)
    (none_of_two
    (λ set. (names.association_named set.association ≡ Some 0) × (element_of_role names classes set (codes "Giver") ≢ type_of_role names classes gives (codes "Giver")))
    giving helping (λ other. other.1 refl) (λ other. let named : 1 ≡ 0 = same_Some 1 0 other.0 in omega arith)))))

pub keeps_constraints : (fault : Fault) → ¬ BreaksConstraintRules classes fault
keeps_constraints = none_in (IsAssociationFault names classes) (codes "Association") classes.associations (
  (λ fault. ⊎_elim (λ mults. gives_mults mults.0.1) (λ lists. gives_lists lists.0.1)),
  ((λ fault. ⊎_elim (λ mults. helps_mults mults.0.1) (λ lists. lists.0.1)), tt),
)

-- V14: teachers and lessons aren't abstract
teachers_concrete : HasConcrete names classes 0
teachers_concrete = (0, (teachers, refl, refl), inl refl)

lessons_concrete : HasConcrete names classes 2
lessons_concrete = (2, (lessons, refl, refl), inl refl)

-- V19: the only arrow leads from lessons to teachers
only_arrow : (set : RawAssociationSet) (from to : ℕ) → (set ≡ giving) ⊎ (set ≡ helping) → IsArrowOf names classes set from to → (from ≡ 1) × (to ≡ 0)
only_arrow set from to which leads = ⊎_elim
    (λ (one : set ≡ giving). let P : RawAssociationSet → Type 0 = λ set. IsArrowOf names classes set from to in by_giving (subst P one leads))
    (λ (other : set ≡ helping). let P : RawAssociationSet → Type 0 = λ set. IsArrowOf names classes set from to in absurd (by_helping (subst P other leads)))
    which
  where
    by_giving : IsArrowOf names classes giving from to → (from ≡ 1) × (to ≡ 0)
    by_giving leads = (same_Some from 1 (sym leads.dependent), same_Some to 0 (sym leads.principal))

    by_helping : ¬ IsArrowOf names classes helping from to
    by_helping none = none

-- so none leads from teachers
none_from_teachers : (to : ℕ) → ¬ IsArrow names classes 0 to
none_from_teachers to = none_of_two (λ set. IsArrowOf names classes set 0 to) giving helping
    (λ leads. let from = (only_arrow giving 0 to (inl refl) leads).0 in omega arith)
    (λ leads. let from = (only_arrow helping 0 to (inr refl) leads).0 in omega arith)

none_leads : (from to : ℕ) → from ≡ 0 → ¬ Leads (IsArrow names classes) from to
none_leads from to start (arrow _ _ is) = let P : ℕ → Type 0 = λ from. IsArrow names classes from to in none_from_teachers to (subst P start is)
none_leads from to start (further _ next _ is rest) = let P : ℕ → Type 0 = λ from. IsArrow names classes from next in none_from_teachers next (subst P start is)

not_on_circle : (set : RawAssociationSet) → (set ≡ giving) ⊎ (set ≡ helping) → ¬ IsOnCircle names classes set
not_on_circle set which (from, to, leads, back) =
    let ends = only_arrow set from to which leads in
    ⊎_elim
    (λ (same : from ≡ to). let one : 1 ≡ 0 = sym ends.0 ∙ same ∙ ends.1 in omega arith)
    (λ (round : Leads (IsArrow names classes) to from). none_leads to from ends.1 round)
    back

-- V15, V18 to V20
giving_keeps : (fault : Fault) → ¬ IsSetFault names classes 0 giving fault
giving_keeps fault = ⊎_elim
    (λ roles. roles.0 (each_once (codes "Lesson" ∷ codes "Giver" ∷ []) (codes "Giver" ∷ codes "Lesson" ∷ []) refl refl refl))
    (⊎_elim
    (λ dependent. dependent.0.1 refl)
    (⊎_elim
    (λ circle. not_on_circle giving (inl refl) circle.0)
    (λ types. none_of_two (HasOtherType names classes gives) (record { role = codes "Giver"; set = codes "Teachers" }) (record { role = codes "Lesson"; set = codes "Lessons" })
    (λ other. other (inl refl)) (λ other. other (inl refl)) types.0)))

helping_keeps : (fault : Fault) → ¬ IsSetFault names classes 1 helping fault
helping_keeps fault = ⊎_elim
    (λ roles. roles.0 (each_once (codes "Helper" ∷ codes "Helped" ∷ []) (codes "Helped" ∷ codes "Helper" ∷ []) refl refl refl))
    (⊎_elim
    (λ dependent. dependent.0)
    (⊎_elim
    (λ circle. not_on_circle helping (inr refl) circle.0)
    (λ types. none_of_two (HasOtherType names classes helps) (record { role = codes "Helped"; set = codes "Lessons" }) (record { role = codes "Helper"; set = codes "Teachers" })
    (λ other. other (inl refl)) (λ other. other (inl refl)) types.0)))

container_keeps : (fault : Fault) → ¬ IsContainerFault names classes classes.container fault
container_keeps fault = ⊎_elim
    (none_in (IsElementFault names classes) (codes "EntitySet") classes.container.sets ((λ fault lacks. lacks.0 teachers_concrete), ((λ fault lacks. lacks.0 lessons_concrete), tt)) fault)
    (none_in (IsSetFault names classes) (codes "AssociationSet") classes.container.association_sets (giving_keeps, (helping_keeps, tt)) fault)

pub keeps_sets : (fault : Fault) → ¬ BreaksSetRules classes fault
keeps_sets fault = ⊎_elim
    (none_under (Member (codes "EntityContainer")) (IsContainerFault names classes classes.container) container_keeps fault)
    (none_in (IsEndsFault names classes) (codes "Association") classes.associations (
      (λ fault broken. none_in (IsEndTypeFault names classes) (codes "End") gives.ends ((λ fault lacks. lacks.0 lessons_concrete), ((λ fault lacks. lacks.0 teachers_concrete), tt)) fault broken.1),
      ((λ fault broken. none_in (IsEndTypeFault names classes) (codes "End") helps.ends ((λ fault lacks. lacks.0 teachers_concrete), ((λ fault lacks. lacks.0 lessons_concrete), tt)) fault broken.1), tt),
    ) fault)

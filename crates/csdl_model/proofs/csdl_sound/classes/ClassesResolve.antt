-- The classes keep V6 and V7.
use Rattle.std.proofs.Common.{⊎_elim, ℕ, List, [], ◌∷◌, map, ◌++◌, codes, refl}
use Rattle.json_form.specs.declared.pointer.Step.TheVariants.{Member}
use Rattle.layouts.specs.declared.fault.Fault.{Fault}
use Rattle.csdl_names.specs.csdl_lists.References.{Names, names_in}
use Rattle.csdl_names.specs.Repeated.{IsRepeated, IsRepeatedInAssociation, IsRepeatedInContainer, IsRepeatedInEnum, IsRepeatedInSchema, IsRepeatedInType}
use Rattle.csdl_names.specs.Unresolved.{IsUnresolved, IsUnresolvedInAssociation, IsUnresolvedInAssociationSet, IsUnresolvedInConstraint, IsUnresolvedInContainer, IsUnresolvedInEnd, IsUnresolvedInNav, IsUnresolvedInRole, IsUnresolvedInSet, IsUnresolvedInSetEnd, IsUnresolvedInType, IsUnresolvedProp, LacksProp, end_of_role}
use Rattle.layouts.proofs.rule_places.NoFaults.{none_again, none_in, none_under}
use Rattle.csdl_meaning.proofs.examples.NoTypeFaults.{declares, not_lacked, not_lacked_above, not_none, once_in_type}
use Rattle.csdl_model.specs.csdl_sound.Classes.{classes, gives, giving, helping, helps, lessons, persons, teacher_of_lesson, teachers}

-- what names stand for
abbrev names : Names
names = names_in classes

-- V6
once_in_schema : (fault : Fault) → ¬ IsRepeatedInSchema classes fault
once_in_schema fault = ⊎_elim
    (none_again (λ association. association.name) [] (codes "Association") (codes "Name") classes.associations refl refl fault)
    (⊎_elim
    (none_again (λ type. type.name) (map (λ association. association.name) classes.associations) (codes "EntityType") (codes "Name") classes.types refl refl fault)
    (none_again (λ enum. enum.name) (map (λ association. association.name) classes.associations ++ map (λ type. type.name) classes.types) (codes "EnumType") (codes "Name") classes.enums refl refl fault))

once_in_container : (fault : Fault) → ¬ IsRepeatedInContainer classes.container fault
once_in_container fault = ⊎_elim
    (none_again (λ set. set.name) [] (codes "AssociationSet") (codes "Name") classes.container.association_sets refl refl fault)
    (none_again (λ set. set.name) (map (λ set. set.name) classes.container.association_sets) (codes "EntitySet") (codes "Name") classes.container.sets refl refl fault)

pub repeats_none : (fault : Fault) → ¬ IsRepeated classes fault
repeats_none fault = ⊎_elim (once_in_schema fault) (⊎_elim
    (none_under (Member (codes "EntityContainer")) (IsRepeatedInContainer classes.container) once_in_container fault)
    (⊎_elim
    (none_in IsRepeatedInType (codes "EntityType") classes.types (once_in_type 0 teachers refl refl, (once_in_type 1 persons refl refl, (once_in_type 2 lessons refl refl, tt))) fault)
    (⊎_elim
    (none_in IsRepeatedInEnum (codes "EnumType") [] tt fault)
    (none_in IsRepeatedInAssociation (codes "Association") classes.associations
    (none_again (λ end. end.role) [] (codes "End") (codes "Role") gives.ends refl refl, (none_again (λ end. end.role) [] (codes "End") (codes "Role") helps.ends refl refl, tt)) fault))))

-- V7: a person has both properties of the key, and so has a teacher
of_persons : (name : List ℕ) → ¬ LacksProp names classes name 1 → ¬ LacksProp names classes name 0
of_persons name = not_lacked_above names classes name 0 1 refl

persons_have_school : ¬ LacksProp names classes (codes "School") 1
persons_have_school = not_lacked names classes (codes "School") 1 persons refl (declares persons (codes "School") refl)

persons_have_number : ¬ LacksProp names classes (codes "Number") 1
persons_have_number = not_lacked names classes (codes "Number") 1 persons refl (declares persons (codes "Number") refl)

lessons_have_school : ¬ LacksProp names classes (codes "School") 2
lessons_have_school = not_lacked names classes (codes "School") 2 lessons refl (declares lessons (codes "School") refl)

resolved_teachers : (fault : Fault) → ¬ IsUnresolvedInType names classes 0 teachers fault
resolved_teachers fault = ⊎_elim (λ nothing. not_none (names.type_named (codes "C.Person")) refl nothing.0) (⊎_elim (λ no. no)
    (none_in (IsUnresolvedInNav names classes) (codes "NavigationProperty") teachers.navs (
      (λ fault. ⊎_elim (λ nothing. not_none (names.association_named (codes "Classes.Gives")) refl nothing.0) (⊎_elim
          (λ lacks. not_none (end_of_role gives (codes "Giver")) refl lacks.0)
          (λ lacks. not_none (end_of_role gives (codes "Lesson")) refl lacks.0))),
      tt,
    ) fault))

resolved_persons : (fault : Fault) → ¬ IsUnresolvedInType names classes 1 persons fault
resolved_persons fault = ⊎_elim (λ no. no) (⊎_elim
    (none_in (IsUnresolvedProp names classes 1) (codes "Key") (codes "School" ∷ codes "Number" ∷ [])
    ((λ fault lacks. persons_have_school lacks.0), ((λ fault lacks. persons_have_number lacks.0), tt)) fault)
    (none_in (IsUnresolvedInNav names classes) (codes "NavigationProperty") [] tt fault))

resolved_lessons : (fault : Fault) → ¬ IsUnresolvedInType names classes 2 lessons fault
resolved_lessons fault = ⊎_elim (λ no. no) (⊎_elim
    (none_in (IsUnresolvedProp names classes 2) (codes "Key") (codes "School" ∷ codes "Hour" ∷ []) (
      (λ fault lacks. lessons_have_school lacks.0),
      ((λ fault lacks. not_lacked names classes (codes "Hour") 2 lessons refl (declares lessons (codes "Hour") refl) lacks.0), tt),
    ) fault)
    (none_in (IsUnresolvedInNav names classes) (codes "NavigationProperty") lessons.navs (
      (λ fault. ⊎_elim (λ nothing. not_none (names.association_named (codes "C.Gives")) refl nothing.0) (⊎_elim
          (λ lacks. not_none (end_of_role gives (codes "Lesson")) refl lacks.0)
          (λ lacks. not_none (end_of_role gives (codes "Giver")) refl lacks.0))),
      tt,
    ) fault))

resolved_container : (fault : Fault) → ¬ IsUnresolvedInContainer names classes classes.container fault
resolved_container fault = ⊎_elim
    (none_in (IsUnresolvedInSet names classes) (codes "EntitySet") classes.container.sets
    ((λ fault nothing. not_none (names.type_named (codes "C.Teacher")) refl nothing.0), ((λ fault nothing. not_none (names.type_named (codes "Classes.Lesson")) refl nothing.0), tt)) fault)
    (none_in (IsUnresolvedInAssociationSet names classes) (codes "AssociationSet") classes.container.association_sets (
      (λ fault. ⊎_elim
          (λ nothing. not_none (names.association_named (codes "Classes.Gives")) refl nothing.0)
          (none_in (IsUnresolvedInSetEnd names classes giving) (codes "End") giving.ends (
            (λ fault. ⊎_elim (λ lacks. not_none (end_of_role gives (codes "Giver")) refl lacks.0) (λ nothing. not_none (names.set_named (codes "Teachers")) refl nothing.0)),
            ((λ fault. ⊎_elim (λ lacks. not_none (end_of_role gives (codes "Lesson")) refl lacks.0) (λ nothing. not_none (names.set_named (codes "Lessons")) refl nothing.0)), tt),
          ) fault)),
      (
        (λ fault. ⊎_elim
            (λ nothing. not_none (names.association_named (codes "C.Helps")) refl nothing.0)
            (none_in (IsUnresolvedInSetEnd names classes helping) (codes "End") helping.ends (
              (λ fault. ⊎_elim (λ lacks. not_none (end_of_role helps (codes "Helped")) refl lacks.0) (λ nothing. not_none (names.set_named (codes "Lessons")) refl nothing.0)),
              ((λ fault. ⊎_elim (λ lacks. not_none (end_of_role helps (codes "Helper")) refl lacks.0) (λ nothing. not_none (names.set_named (codes "Teachers")) refl nothing.0)), tt),
            ) fault)),
        tt,
      ),
    ) fault)

resolved_constraint : (fault : Fault) → ¬ IsUnresolvedInConstraint names classes gives teacher_of_lesson fault
resolved_constraint fault = ⊎_elim
    (none_under (Member (codes "Principal")) (IsUnresolvedInRole names classes gives teacher_of_lesson.principal) (λ fault. ⊎_elim
    (λ lacks. not_none (end_of_role gives (codes "Giver")) refl lacks.0)
    (none_in (IsUnresolvedProp names classes 0) (codes "PropertyRef") teacher_of_lesson.principal.props (
      (λ fault lacks. of_persons (codes "Number") persons_have_number lacks.0),
      ((λ fault lacks. of_persons (codes "School") persons_have_school lacks.0), tt),
    ) fault)) fault)
    (none_under (Member (codes "Dependent")) (IsUnresolvedInRole names classes gives teacher_of_lesson.dependent) (λ fault. ⊎_elim
    (λ lacks. not_none (end_of_role gives (codes "Lesson")) refl lacks.0)
    (none_in (IsUnresolvedProp names classes 2) (codes "PropertyRef") teacher_of_lesson.dependent.props (
      (λ fault lacks. not_lacked names classes (codes "GivenBy") 2 lessons refl (declares lessons (codes "GivenBy") refl) lacks.0),
      ((λ fault lacks. lessons_have_school lacks.0), tt),
    ) fault)) fault)

resolved_gives : (fault : Fault) → ¬ IsUnresolvedInAssociation names classes 0 gives fault
resolved_gives fault = ⊎_elim
    (none_in (IsUnresolvedInEnd names classes) (codes "End") gives.ends
    ((λ fault nothing. not_none (names.type_named (codes "C.Lesson")) refl nothing.0), ((λ fault nothing. not_none (names.type_named (codes "Classes.Teacher")) refl nothing.0), tt)) fault)
    (none_under (Member (codes "ReferentialConstraint")) (IsUnresolvedInConstraint names classes gives teacher_of_lesson) resolved_constraint fault)

resolved_helps : (fault : Fault) → ¬ IsUnresolvedInAssociation names classes 1 helps fault
resolved_helps fault = ⊎_elim
    (none_in (IsUnresolvedInEnd names classes) (codes "End") helps.ends
    ((λ fault nothing. not_none (names.type_named (codes "C.Teacher")) refl nothing.0), ((λ fault nothing. not_none (names.type_named (codes "C.Lesson")) refl nothing.0), tt)) fault)
    (λ no. no)

pub resolves_all : (fault : Fault) → ¬ IsUnresolved classes fault
resolves_all fault = ⊎_elim
    (none_under (Member (codes "EntityContainer")) (IsUnresolvedInContainer names classes classes.container) resolved_container fault)
    (⊎_elim
    (none_in (IsUnresolvedInType names classes) (codes "EntityType") classes.types (resolved_teachers, (resolved_persons, (resolved_lessons, tt))) fault)
    (none_in (IsUnresolvedInAssociation names classes) (codes "Association") classes.associations (resolved_gives, (resolved_helps, tt)) fault))

-- The school keeps the rules V6 to V13.
use Rattle.std.proofs.Common.{drop, ◌≡◌, ⊎_elim, ℕ, ◌≤◌, pos, false, List, [], ◌∷◌, ◌++◌, map, Some, codes, refl, arith}
use Rattle.std.specs.List.{list_any}
use Rattle.std.specs.Str.{bytes_eq}
use Rattle.std.proofs.lemmas.Int.{ints}
use Rattle.json_form.specs.declared.pointer.Step.TheVariants.{Member}
use Rattle.layouts.specs.declared.fault.Fault.{Fault}
use Rattle.layouts.specs.rule_places.Places.{InList}
use Rattle.emc_base.specs.declared.value.Under.TheVariants as under
use Rattle.graphs.specs.base_chains.Chains.{IsAncestor}
use Rattle.csdl_names.specs.csdl_lists.References.{Names, names_in}
use Rattle.csdl_names.specs.Repeated.{IsRepeated, IsRepeatedInAssociation, IsRepeatedInContainer, IsRepeatedInEnum, IsRepeatedInSchema, IsRepeatedInType}
use Rattle.csdl_names.specs.Unresolved.{IsUnresolved, IsUnresolvedInAssociation, IsUnresolvedInAssociationSet, IsUnresolvedInContainer, IsUnresolvedInEnd, IsUnresolvedInNav, IsUnresolvedInSet, IsUnresolvedInType, IsUnresolvedProp, end_of_role}
use Rattle.csdl_types.specs.declared.simple.Simple.TheVariants.{Text, Binary}
use Rattle.csdl_types.specs.Numbers.{numbers_of, under_of}
use Rattle.csdl_types.specs.Inherited.{IsAncestorFault, IsInherited, IsInheritedFault}
use Rattle.csdl_types.specs.Keys.{IsNoKeyPropFault}
use Rattle.csdl_types.specs.PropTypes.{HasLength, IsEnumFault, IsNumberFault, IsPropBoundFault}
use Rattle.csdl_types.specs.TypeRules.{BreaksTypeRules, IsLaterFault}
use Rattle.csdl_meaning.specs.Meaning.{base_in}
use Rattle.csdl_meaning.specs.School.{giving, lessons, levels, parts, persons, school, teachers}
use Rattle.csdl_meaning.specs.SoundTypes.{KeepsTypeRules}
use Rattle.csdl_meaning.proofs.examples.NoTypeFaults.{all_typed, declares, fits, in_key, key_by, none_inherited, not_inherited, not_lacked, not_none, once_in_type, others_not_in_key, unbounded}
use Rattle.layouts.proofs.rule_places.NoFaults.{none_again, none_in, none_under}
use Rattle.graphs.proofs.base_chains.Settled.{none_above_root, root_above}
use Rattle.groupings.proofs.name_places.ByTests.{not_among}

-- what names stand for
abbrev names : Names
names = names_in school

-- V6
once_in_schema : (fault : Fault) → ¬ IsRepeatedInSchema school fault
once_in_schema fault = ⊎_elim
    (none_again (λ association. association.name) [] (codes "Association") (codes "Name") school.associations refl refl fault)
    (⊎_elim
    (none_again (λ type. type.name) (map (λ association. association.name) school.associations) (codes "EntityType") (codes "Name") school.types refl refl fault)
    (none_again (λ enum. enum.name) (map (λ association. association.name) school.associations ++ map (λ type. type.name) school.types) (codes "EnumType") (codes "Name") school.enums refl refl fault))

once_in_container : (fault : Fault) → ¬ IsRepeatedInContainer school.container fault
once_in_container fault = ⊎_elim
    (none_again (λ set. set.name) [] (codes "AssociationSet") (codes "Name") school.container.association_sets refl refl fault)
    (none_again (λ set. set.name) [] (codes "EntitySet") (codes "Name") school.container.sets refl refl fault)

repeats_none : (fault : Fault) → ¬ IsRepeated school fault
repeats_none fault = ⊎_elim (once_in_schema fault) (⊎_elim
    (none_under (Member (codes "EntityContainer")) (IsRepeatedInContainer school.container) once_in_container fault)
    (⊎_elim
    (none_in IsRepeatedInType (codes "EntityType") school.types (once_in_type 0 teachers refl refl, (once_in_type 1 persons refl refl, (once_in_type 2 lessons refl refl, tt))) fault)
    (⊎_elim
    (none_in IsRepeatedInEnum (codes "EnumType") school.enums
    (none_again (λ member. member.name) [] (codes "Member") (codes "Name") levels.members refl refl, (none_again (λ member. member.name) [] (codes "Member") (codes "Name") parts.members refl refl, tt)) fault)
    (none_in IsRepeatedInAssociation (codes "Association") school.associations
    (none_again (λ end. end.role) [] (codes "End") (codes "Role") giving.ends refl refl, tt) fault))))

-- V7
resolved_teachers : (fault : Fault) → ¬ IsUnresolvedInType names school 0 teachers fault
resolved_teachers fault = ⊎_elim (λ nothing. not_none (names.type_named (codes "S.Person")) refl nothing.0) (⊎_elim (λ no. no)
    (none_in (IsUnresolvedInNav names school) (codes "NavigationProperty") teachers.navs (
      (λ fault. ⊎_elim (λ nothing. not_none (names.association_named (codes "School.Gives")) refl nothing.0) (⊎_elim
          (λ lacks. not_none (end_of_role giving (codes "Giver")) refl lacks.0)
          (λ lacks. not_none (end_of_role giving (codes "Lesson")) refl lacks.0))),
      tt,
    ) fault))

resolved_persons : (fault : Fault) → ¬ IsUnresolvedInType names school 1 persons fault
resolved_persons fault = ⊎_elim (λ no. no) (⊎_elim
    (none_in (IsUnresolvedProp names school 1) (codes "Key") (codes "Id" ∷ [])
    ((λ fault lacks. not_lacked names school (codes "Id") 1 persons refl (declares persons (codes "Id") refl) lacks.0), tt) fault)
    (none_in (IsUnresolvedInNav names school) (codes "NavigationProperty") [] tt fault))

resolved_lessons : (fault : Fault) → ¬ IsUnresolvedInType names school 2 lessons fault
resolved_lessons fault = ⊎_elim (λ no. no) (⊎_elim
    (none_in (IsUnresolvedProp names school 2) (codes "Key") (codes "Room" ∷ codes "Hour" ∷ []) (
      (λ fault lacks. not_lacked names school (codes "Room") 2 lessons refl (declares lessons (codes "Room") refl) lacks.0),
      ((λ fault lacks. not_lacked names school (codes "Hour") 2 lessons refl (declares lessons (codes "Hour") refl) lacks.0), tt),
    ) fault)
    (none_in (IsUnresolvedInNav names school) (codes "NavigationProperty") [] tt fault))

resolved_container : (fault : Fault) → ¬ IsUnresolvedInContainer names school school.container fault
resolved_container fault = ⊎_elim
    (none_in (IsUnresolvedInSet names school) (codes "EntitySet") [] tt fault)
    (none_in (IsUnresolvedInAssociationSet names school) (codes "AssociationSet") [] tt fault)

resolved_giving : (fault : Fault) → ¬ IsUnresolvedInAssociation names school 0 giving fault
resolved_giving fault = ⊎_elim
    (none_in (IsUnresolvedInEnd names school) (codes "End") giving.ends
    ((λ fault nothing. not_none (names.type_named (codes "School.Teacher")) refl nothing.0), ((λ fault nothing. not_none (names.type_named (codes "School.Lesson")) refl nothing.0), tt)) fault)
    (λ no. no)

resolves_all : (fault : Fault) → ¬ IsUnresolved school fault
resolves_all fault = ⊎_elim
    (none_under (Member (codes "EntityContainer")) (IsUnresolvedInContainer names school school.container) resolved_container fault)
    (⊎_elim
    (none_in (IsUnresolvedInType names school) (codes "EntityType") school.types (resolved_teachers, (resolved_persons, (resolved_lessons, tt))) fault)
    (none_in (IsUnresolvedInAssociation names school) (codes "Association") school.associations (resolved_giving, tt) fault))

-- V11: teachers have no name of a person's
not_of_persons : (name : List ℕ) → list_any (λ prop. bytes_eq prop.name name) persons.props ≡ false → list_any (λ nav. bytes_eq nav.name name) persons.navs ≡ false
    → ¬ IsInherited (IsAncestor (base_in school) 0) school.types name
not_of_persons = not_inherited (base_in school) school.types 0 1 persons refl refl refl

teachers_keep : (fault : Fault) → ¬ IsLaterFault names school 0 teachers fault
teachers_keep fault = ⊎_elim (λ key. key.0) (⊎_elim (λ none. none) (⊎_elim
    (⊎_elim
    (none_in (λ k prop. IsInheritedFault (IsAncestor (base_in school) 0) school.types prop.name) (codes "Property") teachers.props ((λ fault broken. not_of_persons (codes "Salary") refl refl broken.0), tt) fault)
    (none_in (λ k nav. IsInheritedFault (IsAncestor (base_in school) 0) school.types nav.name) (codes "NavigationProperty") teachers.navs ((λ fault broken. not_of_persons (codes "Lessons") refl refl broken.0), tt) fault))
    (⊎_elim (all_typed names.enum_named teachers refl fault)
    (none_in (λ k. IsPropBoundFault) (codes "Property") teachers.props ((λ fault wrong. wrong.0), tt) fault))))

persons_keep : (fault : Fault) → ¬ IsLaterFault names school 1 persons fault
persons_keep fault = ⊎_elim
    (λ key. key.0 (key_by (codes "Id" ∷ []) (λ none. absurd cc) (omega arith) refl))
    (⊎_elim
    (none_in (λ k. IsNoKeyPropFault (codes "Id" ∷ [])) (codes "Property") persons.props
    ((λ fault broken. not_among (codes "Name") (codes "Id" ∷ []) refl broken.0.0), (in_key (codes "Id" ∷ []) (record { needed = refl; simple = tt }), tt)) fault)
    (⊎_elim (none_inherited (base_in school) school.types 1 persons refl fault)
    (⊎_elim (all_typed names.enum_named persons refl fault)
    (none_in (λ k. IsPropBoundFault) (codes "Property") persons.props
    ((λ fault wrong. fits (HasLength (Some Text)) (pos 40) tt (omega (arith, ints)) (omega (arith, ints)) wrong.0), ((λ fault wrong. wrong.0), tt)) fault))))

abbrev lesson_key : List (List ℕ)
lesson_key = codes "Room" ∷ codes "Hour" ∷ []

lessons_keep : (fault : Fault) → ¬ IsLaterFault names school 2 lessons fault
lessons_keep fault = ⊎_elim
    (λ key. key.0 (key_by lesson_key (λ none. absurd cc) (omega arith) refl))
    (⊎_elim
    (none_in (λ k. IsNoKeyPropFault lesson_key) (codes "Property") lessons.props
    (in_key lesson_key (record { needed = refl; simple = tt }), (in_key lesson_key (record { needed = refl; simple = tt }), others_not_in_key lesson_key 2 (drop 2 lessons.props) refl)) fault)
    (⊎_elim (none_inherited (base_in school) school.types 2 lessons refl fault)
    (⊎_elim (all_typed names.enum_named lessons refl fault)
    (none_in (λ k. IsPropBoundFault) (codes "Property") lessons.props (
      (λ fault wrong. wrong.0),
      (
        (λ fault wrong. wrong.0),
        (
          (λ fault wrong. wrong.0 tt),
          ((λ fault wrong. fits (HasLength (Some Binary)) (pos 9) tt (omega (arith, ints)) (omega (arith, ints)) wrong.0), unbounded 4 (drop 4 lessons.props) refl),
        ),
      ),
    ) fault))))

-- V12: enumerations
levels_keep : (fault : Fault) → ¬ IsEnumFault levels fault
levels_keep fault = ⊎_elim (λ nothing. not_none (under_of levels) refl nothing.0) (⊎_elim (λ nothing. let none : levels.members ≡ [] = nothing.0 in absurd cc)
    (none_in (λ k. IsNumberFault under.Byte) (codes "Member") (numbers_of levels) (byte 7 (omega arith), (byte 3 (omega arith), (byte 4 (omega arith), (byte 7 (omega arith), tt)))) fault))
  where
    byte : (number : ℕ) → number ≤ 255 → (fault : Fault) → ¬ IsNumberFault under.Byte (pos number) fault
    byte number few fault outside = outside.0 (omega (arith, ints), omega (arith, ints))

parts_keep : (fault : Fault) → ¬ IsEnumFault parts fault
parts_keep fault = ⊎_elim (λ nothing. not_none (under_of parts) refl nothing.0) (⊎_elim (λ nothing. let none : parts.members ≡ [] = nothing.0 in absurd cc)
    (none_in (λ k. IsNumberFault under.Int32) (codes "Member") (numbers_of parts)
    ((λ fault outside. outside.0 (omega (arith, ints), omega (arith, ints))), ((λ fault outside. outside.0 (omega (arith, ints), omega (arith, ints))), tt)) fault))

-- V8: no type is its own ancestor
bases_keep : (fault : Fault) → ¬ InList (codes "EntityType") (λ i type. IsAncestorFault (base_in school) i) school.types fault
bases_keep = none_in (λ i type. IsAncestorFault (base_in school) i) (codes "EntityType") school.types (
  (λ fault above. absurd (let one : 0 ≡ 1 = root_above (base_in school) 0 1 0 refl refl above.0 in omega arith)),
  ((λ fault above. none_above_root (base_in school) 1 1 refl above.0), ((λ fault above. none_above_root (base_in school) 2 2 refl above.0), tt)),
)

keeps_types : (fault : Fault) → ¬ BreaksTypeRules school fault
keeps_types fault = ⊎_elim (bases_keep fault) (⊎_elim
    (none_in (IsLaterFault names school) (codes "EntityType") school.types (teachers_keep, (persons_keep, (lessons_keep, tt))) fault)
    (none_in (λ i. IsEnumFault) (codes "EnumType") school.enums (levels_keep, (parts_keep, tt)) fault))

-- the school breaks no rule
pub school_keeps : KeepsTypeRules school
school_keeps = record { repeats_none = repeats_none; resolves_all = resolves_all; keeps_types = keeps_types }

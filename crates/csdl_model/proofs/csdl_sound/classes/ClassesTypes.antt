-- The classes keep V8 to V13.
use Rattle.std.proofs.Common.{◌≡◌, ⊎_elim, ℕ, pos, List, [], ◌∷◌, drop, false, Some, codes, refl, arith}
use Rattle.std.specs.List.{list_any}
use Rattle.std.specs.Str.{bytes_eq}
use Rattle.std.proofs.lemmas.Int.{ints}
use Rattle.layouts.specs.declared.fault.Fault.{Fault}
use Rattle.layouts.specs.rule_places.Places.{InList}
use Rattle.graphs.specs.base_chains.Chains.{IsAncestor}
use Rattle.csdl_names.specs.csdl_lists.References.{Names, names_in}
use Rattle.csdl_types.specs.declared.simple.Simple.TheVariants.{Text}
use Rattle.csdl_types.specs.Inherited.{IsAncestorFault, IsInherited, IsInheritedFault}
use Rattle.csdl_types.specs.Keys.{IsNoKeyPropFault}
use Rattle.csdl_types.specs.PropTypes.{HasLength, IsEnumFault, IsPropBoundFault}
use Rattle.csdl_types.specs.TypeRules.{BreaksTypeRules, IsLaterFault}
use Rattle.csdl_meaning.specs.Meaning.{base_in}
use Rattle.layouts.proofs.rule_places.NoFaults.{none_in}
use Rattle.graphs.proofs.base_chains.Settled.{none_above_root, root_above}
use Rattle.csdl_meaning.proofs.examples.NoTypeFaults.{all_typed, fits, in_key, key_by, none_inherited, not_inherited, others_not_in_key, unbounded}
use Rattle.csdl_model.specs.csdl_sound.Classes.{classes, lessons, persons, teachers}

-- what names stand for
abbrev names : Names
names = names_in classes

-- V11: teachers have no name of a person's
not_of_persons : (name : List ℕ) → list_any (λ prop. bytes_eq prop.name name) persons.props ≡ false → list_any (λ nav. bytes_eq nav.name name) persons.navs ≡ false
    → ¬ IsInherited (IsAncestor (base_in classes) 0) classes.types name
not_of_persons = not_inherited (base_in classes) classes.types 0 1 persons refl refl refl

teachers_keep : (fault : Fault) → ¬ IsLaterFault names classes 0 teachers fault
teachers_keep fault = ⊎_elim (λ key. key.0) (⊎_elim (λ none. none) (⊎_elim
    (⊎_elim
    (none_in (λ k prop. IsInheritedFault (IsAncestor (base_in classes) 0) classes.types prop.name) (codes "Property") teachers.props ((λ fault broken. not_of_persons (codes "Salary") refl refl broken.0), tt) fault)
    (none_in (λ k nav. IsInheritedFault (IsAncestor (base_in classes) 0) classes.types nav.name) (codes "NavigationProperty") teachers.navs ((λ fault broken. not_of_persons (codes "Lessons") refl refl broken.0), tt) fault))
    (⊎_elim (all_typed names.enum_named teachers refl fault)
    (none_in (λ k. IsPropBoundFault) (codes "Property") teachers.props (unbounded 0 teachers.props refl) fault))))

-- the keys
abbrev person_key : List (List ℕ)
person_key = codes "School" ∷ codes "Number" ∷ []

abbrev lesson_key : List (List ℕ)
lesson_key = codes "School" ∷ codes "Hour" ∷ []

persons_keep : (fault : Fault) → ¬ IsLaterFault names classes 1 persons fault
persons_keep fault = ⊎_elim
    (λ key. key.0 (key_by person_key (λ none. absurd cc) (omega arith) refl))
    (⊎_elim
    (none_in (λ k. IsNoKeyPropFault person_key) (codes "Property") persons.props
    (in_key person_key (record { needed = refl; simple = tt }), (in_key person_key (record { needed = refl; simple = tt }), tt)) fault)
    (⊎_elim (none_inherited (base_in classes) classes.types 1 persons refl fault)
    (⊎_elim (all_typed names.enum_named persons refl fault)
    (none_in (λ k. IsPropBoundFault) (codes "Property") persons.props
    ((λ fault wrong. fits (HasLength (Some Text)) (pos 20) tt (omega (arith, ints)) (omega (arith, ints)) wrong.0), unbounded 1 (drop 1 persons.props) refl) fault))))

lessons_keep : (fault : Fault) → ¬ IsLaterFault names classes 2 lessons fault
lessons_keep fault = ⊎_elim
    (λ key. key.0 (key_by lesson_key (λ none. absurd cc) (omega arith) refl))
    (⊎_elim
    (none_in (λ k. IsNoKeyPropFault lesson_key) (codes "Property") lessons.props
    (in_key lesson_key (record { needed = refl; simple = tt }), (in_key lesson_key (record { needed = refl; simple = tt }), others_not_in_key lesson_key 2 (drop 2 lessons.props) refl)) fault)
    (⊎_elim (none_inherited (base_in classes) classes.types 2 lessons refl fault)
    (⊎_elim (all_typed names.enum_named lessons refl fault)
    (none_in (λ k. IsPropBoundFault) (codes "Property") lessons.props (
      (λ fault wrong. wrong.0),
      ((λ fault wrong. fits (HasLength (Some Text)) (pos 9) tt (omega (arith, ints)) (omega (arith, ints)) wrong.0), ((λ fault wrong. wrong.0), ((λ fault wrong. wrong.0 tt), tt))),
    ) fault))))

-- V8: no type is its own ancestor
bases_keep : (fault : Fault) → ¬ InList (codes "EntityType") (λ i type. IsAncestorFault (base_in classes) i) classes.types fault
bases_keep = none_in (λ i type. IsAncestorFault (base_in classes) i) (codes "EntityType") classes.types (
  (λ fault above. absurd (let one : 0 ≡ 1 = root_above (base_in classes) 0 1 0 refl refl above.0 in omega arith)),
  ((λ fault above. none_above_root (base_in classes) 1 1 refl above.0), ((λ fault above. none_above_root (base_in classes) 2 2 refl above.0), tt)),
)

pub keeps_types : (fault : Fault) → ¬ BreaksTypeRules classes fault
keeps_types fault = ⊎_elim (bases_keep fault) (⊎_elim
    (none_in (IsLaterFault names classes) (codes "EntityType") classes.types (teachers_keep, (persons_keep, (lessons_keep, tt))) fault)
    (none_in (λ i. IsEnumFault) (codes "EnumType") [] tt fault))

-- People by one fragment, and staff by two with conditions: the mappings are sound.
use Rattle.std.proofs.Common.{[], ◌∷◌, List, ℕ, refl, arith}
use Rattle.std.specs.List.{AllByRecursion}
use Rattle.std.specs.Prelude.{Some, codes}
use Rattle.round_trip.specs.Words.{Text}
use Rattle.emc_base.specs.declared.value.Kind.TheVariants as kind
use Rattle.emc_base.specs.Domain.{IsText}
use Rattle.edm_types.specs.declared.mapping.CondOn.TheVariants as on
use Rattle.edm_types.specs.IsA.{same, base}
use Rattle.worked_examples.specs.Ids.{type_id, set_id, prop_id, table_id, col_id, pair_of}
use Rattle.worked_examples.specs.people.People.{people, people_set, people_fragment}
use Rattle.worked_examples.specs.staff.Salary.{employee_type, kind_is, persons, employees}
use Rattle.worked_examples.specs.staff.ByKind.{told_staff}
use Rattle.worked_examples.proofs.facts.Values.{text_p, text_e}
use Rattle.round_trip.specs.soundness.mappings.Mappings.{IsSoundFragment, IsSoundSchema}
use Rattle.round_trip.specs.soundness.mappings.Owners.{set}
use Rattle.worked_examples.proofs.sound_examples.mappings.Schemas.{mapping_from}
use Rattle.worked_examples.proofs.sound_examples.mappings.Mappings.{IsHeld}
use Rattle.worked_examples.proofs.sound_examples.mappings.FragmentFacts.{Compares, fragment_from, compares}
use Rattle.worked_examples.proofs.sound_examples.models.People as model
use Rattle.worked_examples.proofs.sound_examples.models.Staff as staff_model
use Rattle.worked_examples.proofs.sound_examples.stores.SoundStores as stores

all_people : IsSoundFragment people (people_fragment (pair_of 0 0 ∷ pair_of 1 1 ∷ []) [])
all_people = fragment_from people (people_fragment (pair_of 0 0 ∷ pair_of 1 1 ∷ []) []) refl
    ((people_set, refl, same (type_id 0)), tt) (((λ e. e), refl), (((λ e. e), omega arith), tt)) tt

pub people_sound : IsSoundSchema people
people_sound = record {
  model = model.sound;
  store = stores.people;
  mapping = mapping_from people (λ t c. prop_id 0) (λ t. set (set_id 0)) refl ((all_people, (refl, refl)), tt) tt;
}

-- a condition on the kind
compares_kind : (text : List ℕ) → IsText (Some 1) text → Compares told_staff (table_id 0) (kind_is text)
compares_kind text letter = compares told_staff refl refl (table_id 0) (on.Col (col_id 2)) (Text text) (kind.Text (Some 1)) refl letter (λ e. e)

ids_held : AllByRecursion (IsHeld told_staff (table_id 0)) (pair_of 0 0 ∷ pair_of 1 1 ∷ [])
ids_held = (((λ e. e), refl), (((λ e. e), omega arith), tt))

sound_persons : IsSoundFragment told_staff persons
sound_persons = fragment_from told_staff persons refl ((people_set, refl, same (type_id 0)), tt) ids_held (compares_kind (codes "P") text_p, tt)

sound_employees : IsSoundFragment told_staff employees
sound_employees = fragment_from told_staff employees refl ((people_set, refl, base (type_id 1) (type_id 0) (employee_type, refl, refl)), tt)
    (((λ e. e), refl), (((λ e. e), omega arith), (((λ e. e), refl), tt))) (compares_kind (codes "E") text_e, tt)

pub staff_sound : IsSoundSchema told_staff
staff_sound = record {
  model = staff_model.sound;
  store = stores.staff;
  mapping = mapping_from told_staff (λ t c. prop_id 0) (λ t. set (set_id 0)) refl ((sound_persons, (refl, refl)), ((sound_employees, (refl, refl)), tt)) tt;
}

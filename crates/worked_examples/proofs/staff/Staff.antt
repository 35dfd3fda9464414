-- Persons and employees, told apart by the column Kind: which states are legal, and which fragment selects whom.
use Rattle.std.proofs.Common.{◌≡◌, ◌≢◌, ℕ, ◌≤◌, List, [], ◌∷◌, refl, ap, arith}
use Rattle.std.specs.Prelude.{pos, false}
use Rattle.std.specs.List.{AllByRecursion}
use Rattle.std.proofs.lemmas.List.Elements.{All-from_recursion}
use Rattle.round_trip.specs.Words.{TypeId, Null, Whole, Pair, Entity, MetByEntity, IsPicked, Selects, IsLegal}
use Rattle.edm_types.specs.IsA.{base}
use Rattle.worked_examples.specs.Ids.{type_id, just}
use Rattle.worked_examples.specs.people.People.{id_prop, name_prop, people_set, person, only_people}
use Rattle.worked_examples.specs.staff.Salary.{staff_model, employee_type, salary_prop, persons, employees, of_kind, kind_is}
use Rattle.worked_examples.specs.staff.ByKind.{employee}
use Rattle.worked_examples.proofs.facts.Small.{PairsByRecursion, any_one}
use Rattle.worked_examples.proofs.facts.Values.{whole_fits}
use Rattle.worked_examples.proofs.facts.Entities.{MayStand, two_values_stand, HaveOwnKeys}
use Rattle.worked_examples.proofs.facts.States.{legal_set_alone}
use Rattle.worked_examples.proofs.people.People.{no_name}

-- a fragment of a kind selects the entities of its type, and no others
module _ (place : List ℕ) (type : TypeId) (pairs : List Pair) (text : List ℕ) (entity : Entity) where
  kind_selects : entity.ty ≡ type → Selects staff_model (of_kind place type pairs text) entity
  kind_selects is = record {
    picked = (0, just type, omega arith, refl, is);
    meets = All-from_recursion (λ cond. MetByEntity staff_model entity cond.on cond.test) (kind_is text ∷ []) (tt, tt);
  }

  kind_passes_over : entity.ty.index ≢ type.index → ¬ Selects staff_model (of_kind place type pairs text) entity
  kind_passes_over other selects = other (ap (λ (t : TypeId). t.index) (any_one (IsPicked staff_model entity.ty) (just type) selects.picked))

module _ (id : ℕ) where
  abbrev pub someone : Entity
  someone = person (pos id) Null

  pub person_stands : id ≤ 2147483647 → MayStand staff_model people_set someone
  person_stands below = two_values_stand (Whole (pos id)) Null (whole_fits false id below) no_name

  pub person_selected : Selects staff_model persons someone
  person_selected = kind_selects _ _ _ _ someone refl

  pub not_employed : ¬ Selects staff_model employees someone
  not_employed = kind_passes_over _ _ _ _ someone (omega arith)

  module _ (salary : ℕ) where
    abbrev pub employed : Entity
    employed = employee (pos id) (pos salary)

    pub employee_stands : id ≤ 2147483647 → salary ≤ 2147483647 → MayStand staff_model people_set employed
    employee_stands below salary_below = record {
      shape = (employee_type, refl, refl);
      type = record { concrete = (employee_type, refl, refl); under = base (type_id 1) (type_id 0) (employee_type, refl, refl) };
      fits = (
        record { declared = id_prop; is_declared = refl; fits = whole_fits false id below },
        (
          record { declared = name_prop; is_declared = refl; fits = no_name },
          (record { declared = salary_prop; is_declared = refl; fits = whole_fits false salary salary_below }, tt),
        ),
      );
    }

    pub employee_selected : Selects staff_model employees employed
    employee_selected = kind_selects _ _ _ _ employed refl

    pub not_a_mere_person : ¬ Selects staff_model persons employed
    not_a_mere_person = kind_passes_over _ _ _ _ employed (omega arith)

pub legal_staff : (entities : List Entity) → AllByRecursion (MayStand staff_model people_set) entities → PairsByRecursion (HaveOwnKeys staff_model) entities
    → IsLegal staff_model (only_people entities)
legal_staff entities each own = legal_set_alone staff_model people_set entities refl refl each own

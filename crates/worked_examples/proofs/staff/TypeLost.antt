-- A person and an employee of one id have the same row where nothing tells the type.
use Rattle.std.proofs.Common.{◌≡◌, inl, inr, ℕ, [], ◌∷◌, refl, ap, arith}
use Rattle.std.specs.Prelude.{Contains, pos, false}
use Rattle.std.proofs.lemmas.List.Elements.{All-nil}
use Rattle.std.proofs.lemmas.List.Sorted.{IsPermutation-refl, Contains-permutation}
use Rattle.round_trip.specs.Words.{TypeId, Null, Whole, Entity, Row, IsA, Tables, rows_in, MetByEntity, Selects, IsLegal, Writing, Writes, TablesAre}
use Rattle.edm_types.specs.IsA.{same, base}
use Rattle.worked_examples.specs.Ids.{type_id, set_id, with_below}
use Rattle.worked_examples.specs.people.People.{id_prop, name_prop, people_set, people_table, person, person_row, only_people, only_rows}
use Rattle.worked_examples.specs.staff.Owners.{employee_type, all_people}
use Rattle.worked_examples.specs.staff.TypeLost.{untold, untold_model, employee, TypeIsLost}
use Rattle.worked_examples.proofs.facts.Small.{each_of}
use Rattle.worked_examples.proofs.facts.Values.{whole_fits}
use Rattle.worked_examples.proofs.facts.Entities.{MayStand, two_values_stand}
use Rattle.worked_examples.proofs.facts.Writings.{entity_writing, each_writing, row_made}
use Rattle.worked_examples.proofs.facts.States.{legal_set_alone, one_row_stored}
use Rattle.worked_examples.proofs.people.People.{no_name}

abbrev a_person : Entity
a_person = person (pos 7) Null

abbrev an_employee : Entity
an_employee = employee (pos 7) Null

abbrev row : Row
row = person_row (pos 7) Null

abbrev tables : Tables
tables = only_rows (row ∷ [])

employee_is_person : IsA untold_model (type_id 1) (type_id 0)
employee_is_person = base (type_id 1) (type_id 0) (employee_type, refl, refl)

person_stands : MayStand untold_model people_set a_person
person_stands = two_values_stand (Whole (pos 7)) Null (whole_fits false 7 (omega arith)) no_name

employee_stands : MayStand untold_model people_set an_employee
employee_stands = record {
  shape = (employee_type, refl, refl);
  type = record { concrete = (employee_type, refl, refl); under = employee_is_person };
  fits = (record { declared = id_prop; is_declared = refl; fits = whole_fits false 7 (omega arith) }, (record { declared = name_prop; is_declared = refl; fits = no_name }, tt));
}

legal : (entity : Entity) → MayStand untold_model people_set entity → IsLegal untold_model (only_people (entity ∷ []))
legal entity may = legal_set_alone untold_model people_set (entity ∷ []) refl refl (may, tt) (tt, tt)

selected : (entity : Entity) → IsA untold_model entity.ty (type_id 0) → Selects untold_model all_people entity
selected entity is = record {
  picked = (0, with_below (type_id 0), omega arith, refl, is);
  meets = All-nil (λ cond. MetByEntity untold_model entity cond.on cond.test);
}

abbrev of_entity : Entity → Writing
of_entity entity = entity_writing untold all_people entity

only : (entity : Entity) (writing : Writing) → Writes untold (only_people (entity ∷ [])) writing → writing ≡ of_entity entity
only entity writing by = each_writing untold (only_people (entity ∷ [])) (λ w. w ≡ of_entity entity) ((λ s. refl, tt), tt) tt writing by

person_stored : TablesAre untold (only_people (a_person ∷ [])) tables
person_stored = one_row_stored untold (only_people (a_person ∷ [])) people_table (of_entity a_person) row (record {
  is_table = refl;
  to_table = refl;
  writes = inl (all_people, a_person, record { mapped = (0, omega arith, refl); stands = (0, omega arith, refl); selected = selected a_person (same (type_id 0)) }, refl);
  only = only a_person;
  made = row_made untold people_table (of_entity a_person) row refl (refl, (refl, tt)) tt (inr (inl (0, omega arith, refl)), (inr (inl (1, omega arith, refl)), tt));
  count = refl;
})

employee_stored : TablesAre untold (only_people (an_employee ∷ [])) tables
employee_stored = one_row_stored untold (only_people (an_employee ∷ [])) people_table (of_entity an_employee) row (record {
  is_table = refl;
  to_table = refl;
  writes = inl (all_people, an_employee, record { mapped = (0, omega arith, refl); stands = (0, omega arith, refl); selected = selected an_employee employee_is_person }, refl);
  only = only an_employee;
  made = row_made untold people_table (of_entity an_employee) row refl (refl, (refl, tt)) tt (inr (inl (0, omega arith, refl)), (inr (inl (1, omega arith, refl)), tt));
  count = refl;
})

not_there : ¬ Contains (an_employee ∷ []) a_person
not_there among =
    let type : type_id 0 ≡ type_id 1 = each_of (λ e. e.ty ≡ type_id 1) (an_employee ∷ []) a_person (refl, tt) among in
    let index : ◌≡◌ {A = ℕ} 0 1 = ap (λ (t : TypeId). t.index) type in
    absurd (omega arith)

pub type_is_lost : TypeIsLost
type_is_lost = record {
  legal = legal a_person person_stands;
  fails = record {
    tables = tables;
    other_tables = tables;
    defined = person_stored;
    other_defined = employee_stored;
    same_tables = λ t. IsPermutation-refl (rows_in tables t);
    other_legal = legal an_employee employee_stands;
    different = λ equal. not_there (Contains-permutation (a_person ∷ []) (an_employee ∷ []) a_person (equal.entities (set_id 0)) (0, omega arith, refl));
    differ = inl (set_id 0, people_set, Whole (pos 7) ∷ [], refl, inl (a_person, (0, omega arith, refl), refl, not_there), refl);
  };
}

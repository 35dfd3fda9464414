-- A person who is no employee leaves the salary null.
use Rattle.std.proofs.Common.{◌≡◌, ◌≢◌, inl, ℕ, [], ◌∷◌, refl, ap, arith}
use Rattle.std.specs.Prelude.{pos, codes}
use Rattle.round_trip.specs.Words.{ColId, Value, Null, Whole, Text, Schema, State, Writing, Writes, Fills}
use Rattle.worked_examples.specs.Ids.{table_id, col_id}
use Rattle.worked_examples.specs.people.People.{only_people}
use Rattle.worked_examples.specs.staff.Salary.{staff_by, staff_table, needed_salaries, persons, SalaryIsLeftNull}
use Rattle.worked_examples.proofs.facts.Writings.{entity_writing, each_writing, each_given, equals_given}
use Rattle.worked_examples.proofs.staff.Staff.{someone, person_stands, person_selected, not_employed, legal_staff}

abbrev staff : Schema
staff = staff_by needed_salaries

abbrev state : State
state = only_people (someone 7 ∷ [])

abbrev written : Writing
written = entity_writing staff persons (someone 7)

-- a value that is given to the column of salaries is null
abbrev IsNullSalary : ColId → Value → Type 0
IsNullSalary col value = col ≡ col_id 3 → value ≡ Null

other_column : (i : ℕ) (value : Value) → i ≢ 3 → IsNullSalary (col_id i) value
other_column i value other equal = absurd (other (ap (λ (c : ColId). c.index) equal))

-- nothing but null is given to the column of salaries
abbrev GivesNoSalary : Writing → Type 0
GivesNoSalary writing = (value : Value) → Fills writing (col_id 3) value → value ≡ Null

of_someone : GivesNoSalary written
of_someone value gives = each_given written IsNullSalary (other_column 0 _ (omega arith), (other_column 1 _ (omega arith), tt))
    (equals_given written IsNullSalary (col_id 2) (Text (codes "P")) (other_column 2 _ (omega arith)), tt) (col_id 3) value gives refl

no_salary : (writing : Writing) → Writes staff state writing → GivesNoSalary writing
no_salary writing by = each_writing staff state GivesNoSalary
    (((λ selects. of_someone), tt), (((λ selects. absurd (not_employed 7 selects)), tt), tt)) tt writing by

pub salary_is_left_null : SalaryIsLeftNull
salary_is_left_null other = record {
  legal = legal_staff (someone 7 ∷ []) (person_stands 7 (omega arith), tt) (tt, tt);
  fails = record {
    t = table_id 0;
    table = staff_table needed_salaries;
    col = col_id 3;
    column = needed_salaries;
    key = Whole (pos 7) ∷ [];
    has_column = record { is_table = refl; is_column = refl };
    not_nullable = refl;
    demands_row = (
      written,
      record {
        writes = inl (persons, someone 7, record { mapped = (0, omega arith, refl); stands = (0, omega arith, refl); selected = person_selected 7 }, refl);
        to_table = refl;
        to_key = refl;
      },
    );
    no_value = λ value demands. no_salary demands.0 demands.1.writes value demands.2;
    place_is = refl;
  };
}

-- A person and an employee in one table: the rows are of kinds P and E, so that each fragment shows its own.
use Rattle.std.proofs.Common.{◌≡◌, ◌≢◌, inl, inr, ℕ, zero, suc, List, [], ◌∷◌, refl, arith}
use Rattle.std.specs.Prelude.{All, pos, codes, true, false, Some}
use Rattle.std.specs.List.{AllByRecursion}
use Rattle.std.proofs.lemmas.List.Elements.{All-from_recursion}
use Rattle.round_trip.specs.Words.{TableId, Value, Null, Whole, Text, Entity, Row, cell_of, MetByRow, Writing, Writes, WritesRow}
use Rattle.emc_base.specs.declared.value.Kind.TheVariants as kind
use Rattle.worked_examples.specs.Ids.{table_id, col_id}
use Rattle.worked_examples.specs.staff.Salary.{staff_store, staff_table, persons, employees, kind_is}
use Rattle.worked_examples.specs.staff.ByKind.{told_staff, optional_salaries, one_of_each, kind_row, told_rows, OneOfEachIsLegal, OneOfEachIsStored, ToldRowsAreLegal, ToldRowsSatisfy}
use Rattle.worked_examples.proofs.facts.Small.{PairsByRecursion}
use Rattle.worked_examples.proofs.facts.Values.{null_fits, whole_fits, text_fits, text_p, text_e}
use Rattle.worked_examples.proofs.facts.Writings.{entity_writing, each_writing, each_given, equals_given}
use Rattle.worked_examples.proofs.facts.LegalRows.{FitsTable, HaveOwnRowKeys, legal_rows, legal_tables}
use Rattle.worked_examples.proofs.facts.KeyedRows.{IsInItsRow, HasItsRow, all_rows_stored}
use Rattle.worked_examples.proofs.facts.Agreement.{Agrees, agrees, satisfied_by_parts}
use Rattle.worked_examples.proofs.people.People.{no_name}
use Rattle.worked_examples.proofs.staff.Staff.{someone, employed, person_stands, employee_stands, person_selected, employee_selected, not_employed, not_a_mere_person, legal_staff}

abbrev a_person : Entity
a_person = someone 1

abbrev an_employee : Entity
an_employee = employed 2 5

pub legal : OneOfEachIsLegal
legal = legal_staff (a_person ∷ an_employee ∷ [])
    (person_stands 1 (omega arith), (employee_stands 2 5 (omega arith) (omega arith), tt)) (((λ equal. absurd (cc)), tt), (tt, tt))

abbrev person_row : Row
person_row = kind_row (pos 1) (codes "P") Null

abbrev employee_row : Row
employee_row = kind_row (pos 2) (codes "E") (Whole (pos 5))

abbrev rows : List Row
rows = person_row ∷ employee_row ∷ []

abbrev of_person : Writing
of_person = entity_writing told_staff persons a_person

abbrev of_employee : Writing
of_employee = entity_writing told_staff employees an_employee

-- each is written by its own fragment alone
each : (Q : Writing → Type 0) → Q of_person → Q of_employee → (writing : Writing) → Writes told_staff one_of_each writing → Q writing
each Q first second writing by = each_writing told_staff one_of_each Q (
  ((λ s. first), ((λ s. absurd (not_a_mere_person 2 5 s)), tt)),
  (((λ s. absurd (not_employed 1 s)), ((λ s. second), tt)), tt),
) tt writing by

-- the row of an id
abbrev row_for : TableId → List Value → Row
row_for t (Whole (pos (suc zero)) ∷ rest) = person_row
row_for t _ = employee_row

-- what each writes stands in its row, and so does the constant of its kind
in_rows : (writing : Writing) → Writes told_staff one_of_each writing → IsInItsRow told_staff one_of_each row_for writing
in_rows writing by = each (IsInItsRow told_staff one_of_each row_for)
    (λ col value gives. each_given of_person (λ c v. v ≡ cell_of person_row c) (refl, (refl, tt))
    (equals_given of_person (λ c v. v ≡ cell_of person_row c) (col_id 2) (Text (codes "P")) refl, tt) col value gives)
    (λ col value gives. each_given of_employee (λ c v. v ≡ cell_of employee_row c) (refl, (refl, (refl, tt)))
    (equals_given of_employee (λ c v. v ≡ cell_of employee_row c) (col_id 2) (Text (codes "E")) refl, tt) col value gives)
    writing by

first : WritesRow told_staff one_of_each (table_id 0) (Whole (pos 1) ∷ []) of_person
first = record {
  writes = inl (persons, a_person, record { mapped = (0, omega arith, refl); stands = (0, omega arith, refl); selected = person_selected 1 }, refl);
  to_table = refl;
  to_key = refl;
}

second : WritesRow told_staff one_of_each (table_id 0) (Whole (pos 2) ∷ []) of_employee
second = record {
  writes = inl (employees, an_employee, record { mapped = (1, omega arith, refl); stands = (1, omega arith, refl); selected = employee_selected 2 5 }, refl);
  to_table = refl;
  to_key = refl;
}

found : (writing : Writing) → Writes told_staff one_of_each writing
    → HasItsRow told_staff one_of_each row_for in_rows (table_id 0) (staff_table optional_salaries) rows writing
found writing by = each (HasItsRow told_staff one_of_each row_for in_rows (table_id 0) (staff_table optional_salaries) rows)
    (λ to. (0, person_row, omega arith, refl, refl)) (λ to. (1, employee_row, omega arith, refl, refl)) writing by

own : PairsByRecursion (HaveOwnRowKeys (staff_table optional_salaries)) rows
own = (((λ equal. absurd (cc)), tt), (tt, tt))

pub stored : OneOfEachIsStored
stored = all_rows_stored told_staff one_of_each row_for in_rows (staff_table optional_salaries) rows (record {
  is_table = refl;
  made = (
    record {
      demanded = (of_person, first);
      for_key = refl;
      cells = (inr (of_person, first, inl (0, omega arith, refl)), (inl refl, (inr (of_person, first, inr (inl (0, omega arith, refl))), (inl refl, tt))));
    },
    (
      record {
        demanded = (of_employee, second);
        for_key = refl;
        cells = (
          inr (of_employee, second, inl (0, omega arith, refl)),
          (inl refl, (inr (of_employee, second, inr (inl (0, omega arith, refl))), (inr (of_employee, second, inl (2, omega arith, refl)), tt))),
        );
      },
      tt,
    ),
  );
  found = found;
  own = own;
  count = (refl, (refl, tt));
})

fit : AllByRecursion (FitsTable (staff_table optional_salaries)) rows
fit = (
  (whole_fits false 1 (omega arith), (no_name, (text_fits false (Some 1) (codes "P") text_p, (null_fits kind.Int32, tt)))),
  ((whole_fits false 2 (omega arith), (no_name, (text_fits false (Some 1) (codes "E") text_e, (whole_fits true 5 (omega arith), tt)))), tt),
)

pub rows_legal : ToldRowsAreLegal
rows_legal = legal_tables (staff_store optional_salaries) told_rows stored.shape (legal_rows (staff_table optional_salaries) rows fit own, tt) tt

module _ (id : ℕ) (letter : ℕ) (salary : Value) where
  abbrev lettered : Row
  lettered = kind_row (pos id) (letter ∷ []) salary

  -- the conditions of a fragment whose rows are of this kind
  abbrev AreMet : ℕ → Type 0
  AreMet wanted = All (λ cond. MetByRow lettered cond.on cond.test) (kind_is (wanted ∷ []) ∷ [])

  met : AreMet letter
  met = All-from_recursion (λ cond. MetByRow lettered cond.on cond.test) (kind_is (letter ∷ []) ∷ []) ((refl, λ none. absurd (cc)), tt)

  not_met : (other : ℕ) → letter ≢ other → ¬ AreMet other
  not_met other differ meets =
      let passes : (Text (letter ∷ []) ≡ Text (other ∷ [])) × (Text (letter ∷ []) ≢ Null) = meets 0 (kind_is (other ∷ [])) (omega arith) in
      differ (cc (passes.0))

-- each fragment writes and shows its own
persons_agree : Agrees told_staff one_of_each told_rows persons
persons_agree = agrees told_staff one_of_each told_rows persons
    ((λ s. (person_row, (0, omega arith, refl), met 1 80 Null, refl)), ((λ s. absurd (not_a_mere_person 2 5 s)), tt))
    ((λ s. (a_person, (0, omega arith, refl), person_selected 1, refl)), ((λ s. absurd (not_met 2 69 (Whole (pos 5)) 80 (omega arith) s)), tt))

employees_agree : Agrees told_staff one_of_each told_rows employees
employees_agree = agrees told_staff one_of_each told_rows employees
    ((λ s. absurd (not_employed 1 s)), ((λ s. (employee_row, (1, omega arith, refl), met 2 69 (Whole (pos 5)), refl)), tt))
    ((λ s. absurd (not_met 1 80 Null 69 (omega arith) s)), ((λ s. (an_employee, (1, omega arith, refl), employee_selected 2 5, refl)), tt))

pub satisfied : ToldRowsSatisfy
satisfied = satisfied_by_parts told_staff one_of_each told_rows (persons_agree, (employees_agree, tt)) tt

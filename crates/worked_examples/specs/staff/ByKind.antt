-- ByKind: people and employees in one table, told apart by the column Kind, where the column of salaries may be null.
use Rattle.std.specs.Prelude.{ℕ, ℤ, pos, List, [], ◌∷◌, codes}
use Rattle.round_trip.specs.Words.{Value, Null, Whole, Text, Column, Schema, Entity, Row, State, Tables, IsLegal, AreLegalTables, TablesAre, Satisfies}
use Rattle.emc_base.specs.declared.value.Kind.TheVariants as kind
use Rattle.worked_examples.specs.Ids.{type_id, optional_column, entity_of, row_of}
use Rattle.worked_examples.specs.people.People.{person, only_people, only_rows}
use Rattle.worked_examples.specs.staff.Salary.{staff_by, staff_model, staff_store}

abbrev pub optional_salaries : Column
optional_salaries = optional_column (codes "Salary") kind.Int32

abbrev pub told_staff : Schema
told_staff = staff_by optional_salaries

abbrev pub employee : ℤ → ℤ → Entity
employee id salary = entity_of (type_id 1) (Whole id ∷ Null ∷ Whole salary ∷ [])

-- a person, and an employee of salary 5
abbrev pub one_of_each : State
one_of_each = only_people (person (pos 1) Null ∷ employee (pos 2) (pos 5) ∷ [])

abbrev pub kind_row : ℤ → List ℕ → Value → Row
kind_row id text salary = row_of (Whole id ∷ Null ∷ Text text ∷ salary ∷ [])

-- the row of the person is of kind P, and that of the employee of kind E
abbrev pub told_rows : Tables
told_rows = only_rows (kind_row (pos 1) (codes "P") Null ∷ kind_row (pos 2) (codes "E") (Whole (pos 5)) ∷ [])

abbrev pub OneOfEachIsLegal : Type 0
OneOfEachIsLegal = IsLegal staff_model one_of_each

abbrev pub OneOfEachIsStored : Type 0
OneOfEachIsStored = TablesAre told_staff one_of_each told_rows

abbrev pub ToldRowsAreLegal : Type 0
ToldRowsAreLegal = AreLegalTables (staff_store optional_salaries) told_rows

abbrev pub ToldRowsSatisfy : Type 0
ToldRowsSatisfy = Satisfies told_staff one_of_each told_rows

-- Salary: people and employees in one table, told apart by the column Kind. Nothing writes the column of salaries for a person who is
-- no employee, and here it can't be null.
use Rattle.std.specs.Prelude.{ℕ, pos, List, [], ◌∷◌, Some, codes}
use Rattle.round_trip.specs.Words.{TypeId, Null, Whole, Text, EntityModel, EntityType, Prop, StoreModel, Table, Column, Fragment, Pair, Cond, Schema, State, place_at, FailsAt}
use Rattle.emc_base.specs.declared.value.Kind.TheVariants as kind
use Rattle.edm_types.specs.declared.mapping.CondOn.TheVariants as on
use Rattle.edm_types.specs.declared.mapping.Test.TheVariants.{Equals}
use Rattle.round_trip.specs.declared.FailKind.TheVariants as kinds
use Rattle.worked_examples.specs.Ids.{type_id, set_id, prop_id, table_id, col_id, needed, needed_column, optional_column, pair_of, just, stem, concrete_type, model_of}
use Rattle.worked_examples.specs.people.People.{id_prop, name_prop, person_type, people_set, person, only_people}

abbrev pub salary_prop : Prop
salary_prop = needed (type_id 1) (codes "Salary") kind.Int32

-- an employee is a person with a salary
abbrev pub employee_type : EntityType
employee_type = concrete_type (codes "Employee") (Some (type_id 0)) (prop_id 0 ∷ []) (prop_id 0 ∷ prop_id 1 ∷ prop_id 2 ∷ [])

abbrev pub staff_model : EntityModel
staff_model = model_of (person_type ∷ employee_type ∷ []) (id_prop ∷ name_prop ∷ salary_prop ∷ []) (stem (type_id 0) (type_id 1) ∷ []) (people_set ∷ []) []

-- a table with this column of salaries
abbrev pub staff_table : Column → Table
staff_table salaries = record {
  name = codes "People";
  cols = needed_column (codes "Id") kind.Int32 ∷ optional_column (codes "Name") (kind.Text (Some 20))
      ∷ needed_column (codes "Kind") (kind.Text (Some 1)) ∷ salaries ∷ [];
  key = col_id 0 ∷ [];
}

abbrev pub staff_store : Column → StoreModel
staff_store salaries = record { namespace = codes "S"; container = codes "D"; tables = staff_table salaries ∷ []; keys = [] }

-- the column Kind holds the text
abbrev pub kind_is : List ℕ → Cond
kind_is text = record { on = on.Col (col_id 2); test = Equals (Text text) }

abbrev pub of_kind : List ℕ → TypeId → List Pair → List ℕ → Fragment
of_kind place type pairs text = record {
  place = place;
  set = set_id 0;
  picks = just type ∷ [];
  table = table_id 0;
  pairs = pairs;
  conds = kind_is text ∷ [];
}

abbrev pub persons : Fragment
persons = of_kind (codes "/EntityContainerMapping/EntitySetMapping/0/EntityTypeMapping/0/MappingFragment/0") (type_id 0)
    (pair_of 0 0 ∷ pair_of 1 1 ∷ []) (codes "P")

abbrev pub employees : Fragment
employees = of_kind (codes "/EntityContainerMapping/EntitySetMapping/0/EntityTypeMapping/1/MappingFragment/0") (type_id 1)
    (pair_of 0 0 ∷ pair_of 1 1 ∷ pair_of 2 3 ∷ []) (codes "E")

abbrev pub staff_by : Column → Schema
staff_by salaries = record { model = staff_model; store = staff_store salaries; mapping = record { fragments = persons ∷ employees ∷ []; links = [] } }

abbrev pub needed_salaries : Column
needed_salaries = needed_column (codes "Salary") kind.Int32

-- the second state is not looked at
abbrev pub SalaryIsLeftNull : Type 0
SalaryIsLeftNull = (other : State) → FailsAt (staff_by needed_salaries) kinds.Null (place_at (codes "People") (Whole (pos 7) ∷ []) (codes "Salary"))
    (only_people (person (pos 7) Null ∷ [])) other

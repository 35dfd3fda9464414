-- Owners: orders owned by people, in a store whose foreign key points to the table of employees. An order of a person who is no
-- employee dangles.
use Rattle.std.specs.Prelude.{ℤ, pos, [], ◌∷◌, Some, None, false, codes}
use Rattle.round_trip.specs.Words.{Null, Whole, EntityModel, EntityType, Prop, EntitySet, Assoc, Constraint, StoreModel, Table, ForeignKey, Fragment, Schema, Entity, State, place_at, FailsAt}
use Rattle.emc_base.specs.declared.value.Kind.TheVariants as kind
use Rattle.edm_types.specs.declared.model.Mult.TheVariants.{One, Many}
use Rattle.round_trip.specs.declared.FailKind.TheVariants as kinds
use Rattle.worked_examples.specs.Ids.{type_id, set_id, prop_id, table_id, col_id, needed, needed_column, set_of, pair_of, just, with_below, entity_of, leaf, stem, concrete_type, model_of}
use Rattle.worked_examples.specs.people.People.{id_prop, name_prop, person_type, people_set, people_table, person}

-- an employee is a person with nothing more
abbrev pub employee_type : EntityType
employee_type = concrete_type (codes "Employee") (Some (type_id 0)) (prop_id 0 ∷ []) (prop_id 0 ∷ prop_id 1 ∷ [])

abbrev pub order_id_prop : Prop
order_id_prop = needed (type_id 2) (codes "Id") kind.Int32

abbrev pub owner_id_prop : Prop
owner_id_prop = needed (type_id 2) (codes "OwnerId") kind.Int32

abbrev pub order_type : EntityType
order_type = concrete_type (codes "Order") None (prop_id 2 ∷ []) (prop_id 2 ∷ prop_id 3 ∷ [])

abbrev pub orders_set : EntitySet
orders_set = set_of (codes "Orders") (type_id 2)

-- the owner of an order is a person
abbrev pub owner_constraint : Constraint
owner_constraint = record { dependent_first = false; principal = prop_id 0 ∷ []; dependent = prop_id 3 ∷ [] }

abbrev pub owner : Assoc
owner = record {
  set_name = codes "Owner";
  assoc_name = codes "Owner";
  first = record { role = codes "Person"; set = set_id 0; ty = type_id 0; mult = One };
  second = record { role = codes "Order"; set = set_id 1; ty = type_id 2; mult = Many };
  constraint = Some owner_constraint;
}

abbrev pub shop_model : EntityModel
shop_model = model_of (person_type ∷ employee_type ∷ order_type ∷ []) (id_prop ∷ name_prop ∷ order_id_prop ∷ owner_id_prop ∷ []) (stem (type_id 0) (type_id 1) ∷ leaf (type_id 2) ∷ []) (people_set ∷ orders_set ∷ []) (owner ∷ [])

abbrev pub employees_table : Table
employees_table = record { name = codes "Employees"; cols = needed_column (codes "Id") kind.Int32 ∷ []; key = col_id 0 ∷ [] }

abbrev pub orders_table : Table
orders_table = record {
  name = codes "Orders";
  cols = needed_column (codes "Id") kind.Int32 ∷ needed_column (codes "OwnerId") kind.Int32 ∷ [];
  key = col_id 0 ∷ [];
}

-- an employee is one of the people, and an order's owner one of the employees
abbrev pub person_key : ForeignKey
person_key = record { name = codes "FK_Person"; from = table_id 1; from_cols = col_id 0 ∷ []; to = table_id 0; to_cols = col_id 0 ∷ [] }

abbrev pub owner_key : ForeignKey
owner_key = record { name = codes "FK_Owner"; from = table_id 2; from_cols = col_id 1 ∷ []; to = table_id 1; to_cols = col_id 0 ∷ [] }

abbrev pub shop_store : StoreModel
shop_store = record {
  namespace = codes "S";
  container = codes "D";
  tables = people_table ∷ employees_table ∷ orders_table ∷ [];
  keys = person_key ∷ owner_key ∷ [];
}

abbrev pub all_people : Fragment
all_people = record {
  place = codes "/EntityContainerMapping/EntitySetMapping/0/EntityTypeMapping/0/MappingFragment/0";
  set = set_id 0;
  picks = with_below (type_id 0) ∷ [];
  table = table_id 0;
  pairs = pair_of 0 0 ∷ pair_of 1 1 ∷ [];
  conds = [];
}

abbrev pub all_employees : Fragment
all_employees = record {
  place = codes "/EntityContainerMapping/EntitySetMapping/0/EntityTypeMapping/1/MappingFragment/0";
  set = set_id 0;
  picks = with_below (type_id 1) ∷ [];
  table = table_id 1;
  pairs = pair_of 0 0 ∷ [];
  conds = [];
}

abbrev pub orders : Fragment
orders = record {
  place = codes "/EntityContainerMapping/EntitySetMapping/1/EntityTypeMapping/0/MappingFragment/0";
  set = set_id 1;
  picks = just (type_id 2) ∷ [];
  table = table_id 2;
  pairs = pair_of 2 0 ∷ pair_of 3 1 ∷ [];
  conds = [];
}

abbrev pub shop : Schema
shop = record { model = shop_model; store = shop_store; mapping = record { fragments = all_people ∷ all_employees ∷ orders ∷ []; links = [] } }

abbrev pub order : ℤ → ℤ → Entity
order id owner_id = entity_of (type_id 2) (Whole id ∷ Whole owner_id ∷ [])

-- order 5 of person 9, who is no employee
abbrev pub owned_by_a_person : State
owned_by_a_person = record { entities = (person (pos 9) Null ∷ []) ∷ (order (pos 5) (pos 9) ∷ []) ∷ []; links = [] ∷ [] }

-- the second state is not looked at
abbrev pub OwnerDangles : Type 0
OwnerDangles = (other : State) → FailsAt shop kinds.Dangling (place_at (codes "Orders") (Whole (pos 5) ∷ []) (codes "FK_Owner")) owned_by_a_person other

-- Contacts: employees and customers, and nobody else; orders are owned by contacts. The type of contacts is abstract.
use Rattle.std.specs.Prelude.{◌≡◌, ℕ, List, [], ◌∷◌, Some, None, true, false, codes}
use Rattle.round_trip.specs.Words.{Null, EntityModel, EntityType, Prop, TypeNode, EntitySet, Assoc, Constraint, Entity, State, IsLegal}
use Rattle.emc_base.specs.declared.value.Kind.TheVariants as kind
use Rattle.edm_types.specs.declared.model.Mult.TheVariants.{One, Many}
use Rattle.edm_types.specs.declared.model.TypeNode.{TypeNode', end_of-TypeNode, more_of-TypeNode}
use Rattle.schema_laws.specs.short_values.Numbers.{number}
use Rattle.population.specs.Plain.{plain}
use Rattle.population.specs.declared.placed.Placed.{Placed}
use Rattle.worked_examples.specs.Ids.{type_id, set_id, prop_id, needed, set_of, entity_of, leaf, concrete_type, model_of}
use Rattle.worked_examples.specs.people.People.{id_prop, name_prop}
use Rattle.worked_examples.specs.supported.Supports.{asked_by, key_in, placed_in, state_of}

abbrev pub contact_type : EntityType
contact_type = record { name = codes "Contact"; base = None; is_abstract = true; key = prop_id 0 ∷ []; props = prop_id 0 ∷ prop_id 1 ∷ []; navs = [] }

-- an employee has a salary, which can't be null
abbrev pub employee_type : EntityType
employee_type = concrete_type (codes "Employee") (Some (type_id 0)) (prop_id 0 ∷ []) (prop_id 0 ∷ prop_id 1 ∷ prop_id 2 ∷ [])

abbrev pub customer_type : EntityType
customer_type = concrete_type (codes "Customer") (Some (type_id 0)) (prop_id 0 ∷ []) (prop_id 0 ∷ prop_id 1 ∷ [])

abbrev pub order_type : EntityType
order_type = concrete_type (codes "Order") None (prop_id 3 ∷ []) (prop_id 3 ∷ prop_id 4 ∷ [])

abbrev pub salary_prop : Prop
salary_prop = needed (type_id 1) (codes "Salary") kind.Int32

abbrev pub order_id_prop : Prop
order_id_prop = needed (type_id 3) (codes "Id") kind.Int32

abbrev pub owner_id_prop : Prop
owner_id_prop = needed (type_id 3) (codes "OwnerId") kind.Int32

abbrev pub contacts_tree : TypeNode
contacts_tree = TypeNode' (type_id 0) true (tt ∷ tt ∷ []) (more_of-TypeNode (leaf (type_id 1)) (more_of-TypeNode (leaf (type_id 2)) end_of-TypeNode))

abbrev pub contacts_set : EntitySet
contacts_set = set_of (codes "Contacts") (type_id 0)

abbrev pub orders_set : EntitySet
orders_set = set_of (codes "Orders") (type_id 3)

abbrev pub owner_constraint : Constraint
owner_constraint = record { dependent_first = false; principal = prop_id 0 ∷ []; dependent = prop_id 4 ∷ [] }

abbrev pub owner : Assoc
owner = record {
  set_name = codes "Owner";
  assoc_name = codes "Owner";
  first = record { role = codes "Contact"; set = set_id 0; ty = type_id 0; mult = One };
  second = record { role = codes "Order"; set = set_id 1; ty = type_id 3; mult = Many };
  constraint = Some owner_constraint;
}

abbrev pub contacts_model : EntityModel
contacts_model = model_of (contact_type ∷ employee_type ∷ customer_type ∷ order_type ∷ []) (id_prop ∷ name_prop ∷ salary_prop ∷ order_id_prop ∷ owner_id_prop ∷ [])
    (contacts_tree ∷ leaf (type_id 3) ∷ []) (contacts_set ∷ orders_set ∷ []) (owner ∷ [])

-- an employee without a name, who earns nothing
abbrev pub employee : ℕ → Entity
employee id = entity_of (type_id 1) (number id ∷ Null ∷ number 0 ∷ [])

abbrev pub order : ℕ → ℕ → Entity
order id owner_id = entity_of (type_id 3) (number id ∷ number owner_id ∷ [])

abbrev pub one_order : List Placed
one_order = placed_in 1 (order 5 9) ∷ []

-- the order asks for its owner
abbrev pub OrderAsks : Type 0
OrderAsks = asked_by contacts_model one_order ≡ key_in 0 (number 9 ∷ []) ∷ []

-- and this is an employee: the first type below that of contacts of which there are entities
abbrev pub OwnerIsConcrete : Type 0
OwnerIsConcrete = plain contacts_model 0 0 (type_id 0) (number 9 ∷ []) ≡ employee 9

abbrev pub order_state : State
order_state = record {
  entities = (employee 10007 ∷ employee 10012 ∷ employee 10017 ∷ employee 9 ∷ [])
      ∷ (order 10007 10007 ∷ order 10012 10012 ∷ order 10017 10017 ∷ order 5 9 ∷ [])
      ∷ [];
  links = [] ∷ [];
}

abbrev pub OrderStands : Type 0
OrderStands = state_of contacts_model one_order [] ≡ order_state

abbrev pub OrderIsLegal : Type 0
OrderIsLegal = IsLegal contacts_model order_state

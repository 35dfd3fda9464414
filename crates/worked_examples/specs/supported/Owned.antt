-- Orders and their owners. An owner is a person and may be an employee; a person who is only asked for is none.
use Rattle.std.specs.Prelude.{◌≡◌, ℕ, pos, List, [], ◌∷◌, Some, true}
use Rattle.round_trip.specs.Words.{Assoc, Null, Entity, EntityModel, State, IsLegal}
use Rattle.schema_laws.specs.short_values.Numbers.{number}
use Rattle.population.specs.Plain.{plain}
use Rattle.population.specs.declared.placed.Placed.{Placed}
use Rattle.worked_examples.specs.Ids.{type_id, entity_of, model_of}
use Rattle.worked_examples.specs.people.People.{person}
use Rattle.worked_examples.specs.staff.Owners.{order, owner, owner_constraint, shop_model}
use Rattle.worked_examples.specs.supported.Supports.{asked_by, key_in, placed_in, state_of}

abbrev pub nameless : ℕ → Entity
nameless id = person (pos id) Null

abbrev pub owned : ℕ → ℕ → Entity
owned id owner_id = order (pos id) (pos owner_id)

abbrev pub nameless_employee : ℕ → Entity
nameless_employee id = entity_of (type_id 1) (number id ∷ Null ∷ [])

abbrev pub one_order : List Placed
one_order = placed_in 1 (owned 5 9) ∷ []

-- the order asks for its owner
abbrev pub OrderAsks : Type 0
OrderAsks = asked_by shop_model one_order ≡ key_in 0 (number 9 ∷ []) ∷ []

-- and this is a person, and no employee
abbrev pub OwnerIsPlain : Type 0
OwnerIsPlain = plain shop_model 0 0 (type_id 0) (number 9 ∷ []) ≡ nameless 9

-- number zero and the numbers of two ends, and what the order asks for
abbrev pub order_state : State
order_state = record {
  entities = (nameless 10007 ∷ nameless 10012 ∷ nameless 10017 ∷ nameless 9 ∷ [])
      ∷ (owned 10007 10007 ∷ owned 10012 10012 ∷ owned 10017 10017 ∷ owned 5 9 ∷ [])
      ∷ [];
  links = [] ∷ [];
}

abbrev pub OrderStands : Type 0
OrderStands = state_of shop_model one_order [] ≡ order_state

abbrev pub OrderIsLegal : Type 0
OrderIsLegal = IsLegal shop_model order_state

-- an order of an employee who is given too
abbrev pub employees_order : List Placed
employees_order = placed_in 1 (owned 5 9) ∷ placed_in 0 (nameless_employee 9) ∷ []

-- no one else is asked for, and the employee stands
abbrev pub GivenOwnerIsTaken : Type 0
GivenOwnerIsTaken = asked_by shop_model employees_order ≡ []

abbrev pub employees_state : State
employees_state = record {
  entities = (nameless 10007 ∷ nameless 10012 ∷ nameless 10017 ∷ nameless_employee 9 ∷ [])
      ∷ (owned 10007 10007 ∷ owned 10012 10012 ∷ owned 10017 10017 ∷ owned 5 9 ∷ [])
      ∷ [];
  links = [] ∷ [];
}

abbrev pub EmployeeStands : Type 0
EmployeeStands = state_of shop_model employees_order [] ≡ employees_state

abbrev pub EmployeeIsLegal : Type 0
EmployeeIsLegal = IsLegal shop_model employees_state

-- the owner's association with its ends the other way round
abbrev pub turned_owner : Assoc
turned_owner = record {
  set_name = owner.set_name;
  assoc_name = owner.assoc_name;
  first = owner.second;
  second = owner.first;
  constraint = Some (record { dependent_first = true; principal = owner_constraint.principal; dependent = owner_constraint.dependent });
}

abbrev pub turned_model : EntityModel
turned_model = model_of shop_model.types shop_model.props shop_model.forest shop_model.sets (turned_owner ∷ [])

-- the order asks for the same
abbrev pub TurnedOrderAsks : Type 0
TurnedOrderAsks = asked_by turned_model one_order ≡ key_in 0 (number 9 ∷ []) ∷ []

abbrev pub TurnedOrderStands : Type 0
TurnedOrderStands = state_of turned_model one_order [] ≡ order_state

-- an order of a person who stands in each state, by the number of an end
abbrev pub NumberedOwnerIsTaken : Type 0
NumberedOwnerIsTaken = asked_by shop_model (placed_in 1 (owned 5 10012) ∷ []) ≡ []

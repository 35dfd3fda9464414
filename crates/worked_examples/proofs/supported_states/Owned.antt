-- An order and its owner, who is a person, or a given employee.
use Rattle.std.proofs.Common.{List, ◌∷◌, ℕ, ◌≤◌, refl, arith}
use Rattle.std.specs.Prelude.{false}
use Rattle.edm_types.specs.IsA.{base, same}
use Rattle.round_trip.specs.Words.{Assoc, EntitySet, EntityType, Prop, TypeNode}
use Rattle.worked_examples.specs.Ids.{model_of, prop_id, type_id}
use Rattle.worked_examples.specs.people.People.{id_prop, name_prop, people_set, person_type}
use Rattle.worked_examples.specs.staff.Owners.{employee_type, order_id_prop, order_type, orders_set, owner_id_prop, shop_model}
use Rattle.worked_examples.specs.supported.Owned as e
use Rattle.worked_examples.specs.supported.Supports.{placed_in}
use Rattle.worked_examples.proofs.facts.Entities.{MayStand}
use Rattle.worked_examples.proofs.facts.Values.{whole_fits}
use Rattle.worked_examples.proofs.people.People.{no_name}
use Rattle.worked_examples.proofs.sound_examples.models.Shop.{sound}
use Rattle.worked_examples.proofs.supported_states.Given.{GivenFacts, MayBeGiven, legal_without, short_for}

pub asks : e.OrderAsks
asks = refl

pub is_plain : e.OwnerIsPlain
is_plain = refl

pub stands : e.OrderStands
stands = refl

pub given_is_taken : e.GivenOwnerIsTaken
given_is_taken = refl

pub employee_stands : e.EmployeeStands
employee_stands = refl

pub numbered_is_taken : e.NumberedOwnerIsTaken
numbered_is_taken = refl

pub turned_asks : e.TurnedOrderAsks
turned_asks = refl

pub turned_stands : e.TurnedOrderStands
turned_stands = refl

-- an employee of a small id, in a model whose first types are those of people and employees
module _ {types : List EntityType} {props : List Prop} {forest : List TypeNode} {sets : List EntitySet} {assocs : List Assoc} where
  pub employee_stands_in : (id : ℕ) → id ≤ 2147483647
      → MayStand (model_of (person_type ∷ employee_type ∷ types) (id_prop ∷ name_prop ∷ props) forest sets assocs) people_set (e.nameless_employee id)
  employee_stands_in id below = record {
    shape = (employee_type, refl, refl);
    type = record { concrete = (employee_type, refl, refl); under = base (type_id 1) (type_id 0) (employee_type, refl, refl) };
    fits = (record { declared = id_prop; is_declared = refl; fits = whole_fits false id below }, (record { declared = name_prop; is_declared = refl; fits = no_name }, tt));
  }

order_may : MayBeGiven shop_model (placed_in 1 (e.owned 5 9))
order_may = record {
  set = orders_set;
  is_set = refl;
  stands = record {
    shape = (order_type, refl, refl);
    type = record { concrete = (order_type, refl, refl); under = same (type_id 2) };
    fits = (
      record { declared = order_id_prop; is_declared = refl; fits = whole_fits false 5 (omega arith) },
      (record { declared = owner_id_prop; is_declared = refl; fits = whole_fits false 9 (omega arith) }, tt),
    );
  };
  free = refl;
}

order_facts : GivenFacts shop_model e.one_order
order_facts = record { each = (order_may, tt); apart = (tt, tt); short = ((short_for shop_model (prop_id 0) id_prop refl 9 tt (omega arith), tt), tt) }

pub legal : e.OrderIsLegal
legal = legal_without shop_model sound (omega arith) e.one_order order_facts e.order_state stands

employee_facts : GivenFacts shop_model e.employees_order
employee_facts = record {
  each = (order_may, (record { set = people_set; is_set = refl; stands = employee_stands_in 9 (omega arith); free = refl }, tt));
  apart = ((refl, tt), (tt, tt));
  short = ((short_for shop_model (prop_id 0) id_prop refl 9 tt (omega arith), tt), tt);
}

pub employee_legal : e.EmployeeIsLegal
employee_legal = legal_without shop_model sound (omega arith) e.employees_order employee_facts e.employees_state employee_stands

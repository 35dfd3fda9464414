-- Leaders: each project is led by exactly one employee, and an employee leads any number of projects. The leader's end has a type below that of its set.
use Rattle.std.specs.Prelude.{◌≡◌, ℕ, List, [], ◌∷◌, None, codes}
use Rattle.round_trip.specs.Words.{EntityModel, EntityType, Prop, EntitySet, Assoc, Entity, Link, State, IsLegal}
use Rattle.emc_base.specs.declared.value.Kind.TheVariants as kind
use Rattle.edm_types.specs.declared.model.Mult.TheVariants.{One, Many}
use Rattle.schema_laws.specs.short_values.Numbers.{number}
use Rattle.population.specs.declared.placed.Placed.{Placed}
use Rattle.population.specs.declared.placed.PlacedLink.{PlacedLink}
use Rattle.worked_examples.specs.Ids.{type_id, set_id, prop_id, needed, set_of, entity_of, leaf, stem, concrete_type, model_of}
use Rattle.worked_examples.specs.people.People.{id_prop, name_prop, person_type, people_set}
use Rattle.worked_examples.specs.staff.Owners.{employee_type}
use Rattle.worked_examples.specs.supported.Owned.{nameless, nameless_employee}
use Rattle.worked_examples.specs.supported.Supports.{linked_by, placed_in, state_of}

abbrev pub project_prop : Prop
project_prop = needed (type_id 2) (codes "Id") kind.Int32

abbrev pub project_type : EntityType
project_type = concrete_type (codes "Project") None (prop_id 2 ∷ []) (prop_id 2 ∷ [])

abbrev pub projects_set : EntitySet
projects_set = set_of (codes "Projects") (type_id 2)

abbrev pub leader : Assoc
leader = record {
  set_name = codes "Leaders";
  assoc_name = codes "Leader";
  first = record { role = codes "Employee"; set = set_id 0; ty = type_id 1; mult = One };
  second = record { role = codes "Project"; set = set_id 1; ty = type_id 2; mult = Many };
  constraint = None;
}

abbrev pub leaders_model : EntityModel
leaders_model = model_of (person_type ∷ employee_type ∷ project_type ∷ []) (id_prop ∷ name_prop ∷ project_prop ∷ []) (stem (type_id 0) (type_id 1) ∷ leaf (type_id 2) ∷ [])
    (people_set ∷ projects_set ∷ []) (leader ∷ [])

abbrev pub project : ℕ → Entity
project id = entity_of (type_id 2) (number id ∷ [])

-- the employee leads the project
abbrev pub leads : ℕ → ℕ → Link
leads id of = record { first = number id ∷ []; second = number of ∷ [] }

-- two projects, and an employee who leads the second
abbrev pub two_projects : List Placed
two_projects = placed_in 1 (project 5) ∷ placed_in 1 (project 6) ∷ placed_in 0 (nameless_employee 3) ∷ []

abbrev pub one_leader : List PlacedLink
one_leader = linked_by 0 (leads 3 6) ∷ []

-- number zero, that of the leader's end, who is an employee, and that of the other end. Project 6 has the given leader alone; project 5, and those of all
-- numbers, have employee 10012
abbrev pub led_state : State
led_state = record {
  entities = (nameless 10007 ∷ nameless_employee 10012 ∷ nameless 10017 ∷ nameless_employee 3 ∷ [])
      ∷ (project 10007 ∷ project 10012 ∷ project 10017 ∷ project 5 ∷ project 6 ∷ [])
      ∷ [];
  links = (leads 3 6 ∷ leads 10012 10007 ∷ leads 10012 10012 ∷ leads 10012 10017 ∷ leads 10012 5 ∷ []) ∷ [];
}

abbrev pub LeaderStands : Type 0
LeaderStands = state_of leaders_model two_projects one_leader ≡ led_state

abbrev pub LeaderIsLegal : Type 0
LeaderIsLegal = IsLegal leaders_model led_state

-- TypeLost: people and employees by one fragment that picks both, in a table with no column for the type. A person and an employee
-- of one id have the same tables.
use Rattle.std.specs.Prelude.{ℤ, pos, [], ◌∷◌, codes}
use Rattle.round_trip.specs.Words.{Value, Null, Whole, EntityModel, Schema, Entity, place_at, FailsAt}
use Rattle.round_trip.specs.declared.FailKind.TheVariants as kinds
use Rattle.worked_examples.specs.Ids.{type_id, entity_of, stem, model_of}
use Rattle.worked_examples.specs.people.People.{id_prop, name_prop, person_type, people_set, people_store, person, only_people}
use Rattle.worked_examples.specs.staff.Owners.{employee_type, all_people}

-- an employee is a person with nothing more
abbrev pub untold_model : EntityModel
untold_model = model_of (person_type ∷ employee_type ∷ []) (id_prop ∷ name_prop ∷ []) (stem (type_id 0) (type_id 1) ∷ []) (people_set ∷ []) []

abbrev pub untold : Schema
untold = record { model = untold_model; store = people_store; mapping = record { fragments = all_people ∷ []; links = [] } }

abbrev pub employee : ℤ → Value → Entity
employee id name = entity_of (type_id 1) (Whole id ∷ name ∷ [])

abbrev pub TypeIsLost : Type 0
TypeIsLost = FailsAt untold kinds.Same (place_at (codes "People") (Whole (pos 7) ∷ []) [])
    (only_people (person (pos 7) Null ∷ [])) (only_people (employee (pos 7) Null ∷ []))

-- LongName: what is told of a person whose name has 21 characters, where 20 are allowed.
use Rattle.std.specs.Prelude.{pos, [], ◌∷◌, codes}
use Rattle.round_trip.specs.Words.{Whole, Text, State, place_at, IsBreachOf}
use Rattle.worked_examples.specs.people.People.{people_model, person, only_people, accented}

abbrev pub long_named : State
long_named = only_people (person (pos 1) (Text (accented 21)) ∷ [])

-- the third rule, of values in their domains, at the name of this person
abbrev pub LongNameIsTold : Type 0
LongNameIsTold = IsBreachOf people_model long_named (record { rule = 3; place = place_at (codes "People") (Whole (pos 1) ∷ []) (codes "Name") })

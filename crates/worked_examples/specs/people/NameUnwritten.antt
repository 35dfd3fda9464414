-- NameUnwritten: people whose names are written nowhere. Two people of one id with different names have the same tables.
use Rattle.std.specs.Prelude.{pos, [], ◌∷◌, codes}
use Rattle.round_trip.specs.Words.{Null, Whole, Text, Schema, place_at, FailsAt}
use Rattle.round_trip.specs.declared.FailKind.TheVariants as kind
use Rattle.worked_examples.specs.Ids.{pair_of}
use Rattle.worked_examples.specs.people.People.{people_by, people_fragment, person, only_people}

-- only the id is written
abbrev pub people_without_names : Schema
people_without_names = people_by (people_fragment (pair_of 0 0 ∷ []) [])

abbrev pub NameIsLost : Type 0
NameIsLost = FailsAt people_without_names kind.Same (place_at (codes "People") (Whole (pos 7) ∷ []) [])
    (only_people (person (pos 7) Null ∷ [])) (only_people (person (pos 7) (Text (codes "a")) ∷ []))

-- NameShown: people by a fragment that shows only rows with a name. A person without a name is written and not shown.
use Rattle.std.specs.Prelude.{pos, [], ◌∷◌, codes, false}
use Rattle.round_trip.specs.Words.{Null, Whole, Cond, Schema, State, place_at, FailsAt}
use Rattle.edm_types.specs.declared.mapping.CondOn.TheVariants as on
use Rattle.edm_types.specs.declared.mapping.Test.TheVariants.{IsNull}
use Rattle.round_trip.specs.declared.FailKind.TheVariants as kind
use Rattle.worked_examples.specs.Ids.{pair_of, col_id}
use Rattle.worked_examples.specs.people.People.{people_by, people_fragment, person, only_people}

-- the column of names isn't null
abbrev pub name_stands : Cond
name_stands = record { on = on.Col (col_id 1); test = IsNull false }

abbrev pub people_with_names : Schema
people_with_names = people_by (people_fragment (pair_of 0 0 ∷ pair_of 1 1 ∷ []) (name_stands ∷ []))

-- the second state is not looked at
abbrev pub NullNameIsHidden : Type 0
NullNameIsHidden = (other : State) → FailsAt people_with_names kind.Disagrees
    (place_at (codes "/EntityContainerMapping/EntitySetMapping/0/EntityTypeMapping/0/MappingFragment/0") (Whole (pos 7) ∷ []) [])
    (only_people (person (pos 7) Null ∷ [])) other

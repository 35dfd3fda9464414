-- BossLost: people whose bosses are written nowhere. Two states that differ in one link have the same tables.
use Rattle.std.specs.Prelude.{pos, [], ◌∷◌, codes}
use Rattle.round_trip.specs.Words.{Null, Schema, State, place_at, FailsAt}
use Rattle.edm_types.specs.declared.model.Mult.TheVariants.{Many}
use Rattle.round_trip.specs.declared.FailKind.TheVariants as kinds
use Rattle.worked_examples.specs.people.People.{people_store, person}
use Rattle.worked_examples.specs.bosses.Bosses.{bossed_model, boss_of, with_bosses, all_people}

-- no fragment writes the links
abbrev pub unlinked : Schema
unlinked = record { model = bossed_model Many; store = people_store; mapping = record { fragments = all_people ∷ []; links = [] } }

-- a person who is their own boss, and the same person with no boss
abbrev pub own_boss : State
own_boss = with_bosses (person (pos 1) Null ∷ []) (boss_of (pos 1) (pos 1) ∷ [])

abbrev pub no_boss : State
no_boss = with_bosses (person (pos 1) Null ∷ []) []

-- the place names the association set, and its key is empty
abbrev pub BossIsLost : Type 0
BossIsLost = FailsAt unlinked kinds.Same (place_at (codes "Boss") [] []) own_boss no_boss

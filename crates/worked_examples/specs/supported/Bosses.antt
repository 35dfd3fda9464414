-- Bosses: each person has exactly one boss. One who has no given boss has the person of the number of the boss's end, and this person has themself.
use Rattle.std.specs.Prelude.{◌≡◌, ℕ, pos, List, [], ◌∷◌}
use Rattle.round_trip.specs.Words.{EntityModel, Link, State, IsLegal}
use Rattle.edm_types.specs.declared.model.Mult.TheVariants.{One}
use Rattle.population.specs.declared.placed.Placed.{Placed}
use Rattle.population.specs.declared.placed.PlacedLink.{PlacedLink}
use Rattle.worked_examples.specs.bosses.Bosses.{boss_of, bossed_model, with_bosses}
use Rattle.worked_examples.specs.supported.Owned.{nameless}
use Rattle.worked_examples.specs.supported.Supports.{linked_by, placed_in, state_of}

abbrev pub one_boss_model : EntityModel
one_boss_model = bossed_model One

-- the first has the second as a boss
abbrev pub boss : ℕ → ℕ → Link
boss staff manager = boss_of (pos staff) (pos manager)

abbrev pub two_people : List Placed
two_people = placed_in 0 (nameless 1) ∷ placed_in 0 (nameless 2) ∷ []

abbrev pub one_boss : List PlacedLink
one_boss = linked_by 0 (boss 1 2) ∷ []

-- person 1 has the given boss alone; person 2, and those of all numbers, have person 10017
abbrev pub bossed_state : State
bossed_state = with_bosses (nameless 10007 ∷ nameless 10012 ∷ nameless 10017 ∷ nameless 1 ∷ nameless 2 ∷ [])
    (boss 1 2 ∷ boss 10007 10017 ∷ boss 10012 10017 ∷ boss 10017 10017 ∷ boss 2 10017 ∷ [])

abbrev pub BossStands : Type 0
BossStands = state_of one_boss_model two_people one_boss ≡ bossed_state

abbrev pub BossIsLegal : Type 0
BossIsLegal = IsLegal one_boss_model bossed_state

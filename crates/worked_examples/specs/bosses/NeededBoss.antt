-- NeededBoss: people of whom each has exactly one boss.
use Rattle.std.specs.Prelude.{pos, List, [], ◌∷◌}
use Rattle.round_trip.specs.Words.{Null, Link, State, IsLegal}
use Rattle.edm_types.specs.declared.model.Mult.TheVariants.{One}
use Rattle.worked_examples.specs.people.People.{person}
use Rattle.worked_examples.specs.bosses.Bosses.{bossed_model, boss_of, with_bosses}

-- two people with these links
abbrev pub pair_with : List Link → State
pair_with links = with_bosses (person (pos 1) Null ∷ person (pos 2) Null ∷ []) links

-- each is the other's boss
abbrev pub EachOthersBossIsLegal : Type 0
EachOthersBossIsLegal = IsLegal (bossed_model One) (pair_with (boss_of (pos 1) (pos 2) ∷ boss_of (pos 2) (pos 1) ∷ []))

-- the second person has no boss
abbrev pub MissingBossIsNot : Type 0
MissingBossIsNot = ¬ IsLegal (bossed_model One) (pair_with (boss_of (pos 1) (pos 2) ∷ []))

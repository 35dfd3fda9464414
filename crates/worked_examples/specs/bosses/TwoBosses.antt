-- TwoBosses: people whose bosses stand in one column, though a person may have several.
use Rattle.std.specs.Prelude.{pos, [], ◌∷◌, codes}
use Rattle.round_trip.specs.Words.{Null, Whole, State, place_at, FailsAt}
use Rattle.edm_types.specs.declared.model.Mult.TheVariants.{Many}
use Rattle.round_trip.specs.declared.FailKind.TheVariants as kinds
use Rattle.worked_examples.specs.people.People.{person}
use Rattle.worked_examples.specs.bosses.Bosses.{bossed, boss_of, with_bosses}

-- three people, of whom the first has the others as bosses
abbrev pub two_bosses : State
two_bosses = with_bosses (person (pos 1) Null ∷ person (pos 2) Null ∷ person (pos 3) Null ∷ []) (boss_of (pos 1) (pos 2) ∷ boss_of (pos 1) (pos 3) ∷ [])

-- the second state is not looked at
abbrev pub TwoBossesClash : Type 0
TwoBossesClash = (other : State) → FailsAt (bossed Many) kinds.Clash (place_at (codes "People") (Whole (pos 1) ∷ []) (codes "BossId")) two_bosses other

-- LinkHidden: people whose boss stands in one column, by a link fragment that shows only rows with a name. The boss of a person without
-- a name is written and not shown.
use Rattle.std.specs.Prelude.{pos, [], ◌∷◌, codes}
use Rattle.round_trip.specs.Words.{Whole, LinkFragment, Schema, State, place_at, FailsAt}
use Rattle.edm_types.specs.declared.model.Mult.TheVariants.{ZeroOrOne}
use Rattle.round_trip.specs.declared.FailKind.TheVariants as kind
use Rattle.worked_examples.specs.bosses.Bosses.{boss_links_if, bossed_by, boss_of}
use Rattle.worked_examples.specs.people.NameShown.{name_stands}
use Rattle.worked_examples.specs.bosses.NeededBoss.{pair_with}

abbrev pub named_links : LinkFragment
named_links = boss_links_if (name_stands ∷ [])

abbrev pub bossed_if_named : Schema
bossed_if_named = bossed_by named_links ZeroOrOne

-- two people without names, of whom the second is the boss of the first
abbrev pub unnamed_pair : State
unnamed_pair = pair_with (boss_of (pos 1) (pos 2) ∷ [])

-- the place has the keys of both ends; the second state is not looked at
abbrev pub BossIsHidden : Type 0
BossIsHidden = (other : State) → FailsAt bossed_if_named kind.Disagrees
    (place_at (codes "/EntityContainerMapping/AssociationSetMapping/0") (Whole (pos 1) ∷ Whole (pos 2) ∷ []) []) unnamed_pair other

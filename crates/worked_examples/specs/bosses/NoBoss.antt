-- NoBoss: people in a table with a column for a boss, by a fragment that shows only rows in which this column is null. So it demands
-- null there.
use Rattle.std.specs.Prelude.{pos, [], ◌∷◌, codes, true}
use Rattle.round_trip.specs.Words.{Null, Whole, Fragment, Cond, Schema, Tables, Shows, DemandsCell, TablesAre, Satisfies}
use Rattle.edm_types.specs.declared.mapping.CondOn.TheVariants as on
use Rattle.edm_types.specs.declared.mapping.Test.TheVariants.{IsNull}
use Rattle.worked_examples.specs.Ids.{table_id, col_id, pair_of}
use Rattle.worked_examples.specs.people.People.{people_model, people_fragment, one_person, only_rows}
use Rattle.worked_examples.specs.bosses.Bosses.{bossed_store}
use Rattle.worked_examples.specs.bosses.OneBoss.{crew_row}

-- the column of bosses is null
abbrev pub boss_is_null : Cond
boss_is_null = record { on = on.Col (col_id 2); test = IsNull true }

abbrev pub bossless_people : Fragment
bossless_people = people_fragment (pair_of 0 0 ∷ pair_of 1 1 ∷ []) (boss_is_null ∷ [])

abbrev pub bossless : Schema
bossless = record { model = people_model; store = bossed_store; mapping = record { fragments = bossless_people ∷ []; links = [] } }

abbrev pub bossless_rows : Tables
bossless_rows = only_rows (crew_row (pos 1) (codes "a") Null ∷ [])

abbrev pub NoBossIsDemanded : Type 0
NoBossIsDemanded = DemandsCell bossless one_person (table_id 0) (Whole (pos 1) ∷ []) (col_id 2) Null

-- the row is shown, and one with a boss is not
abbrev pub OnlyBosslessIsShown : Type 0
OnlyBosslessIsShown = Shows bossless_people (crew_row (pos 1) (codes "a") Null) × ¬ Shows bossless_people (crew_row (pos 2) (codes "b") (Whole (pos 1)))

abbrev pub BosslessIsStored : Type 0
BosslessIsStored = TablesAre bossless one_person bossless_rows

abbrev pub BosslessRowSatisfies : Type 0
BosslessRowSatisfies = Satisfies bossless one_person bossless_rows

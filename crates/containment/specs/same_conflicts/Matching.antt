-- Whether two cells, two rows or the rows of two regions can hold the same, by what their symbols can be.
-- Source: this project's.
use Rattle.std.specs.Prelude.{◌&&◌, List, Bool, true, map}
use Rattle.round_trip.specs.Words.{Null, EntityModel}
use Rattle.schema_laws.specs.state_demand.Selecting.{same_value}
use Rattle.condition_logic.specs.declared.atoms.AtomOf.{AtomOf}
use Rattle.regions.specs.declared.pattern.Symbol.{Symbol}
use Rattle.regions.specs.Basis.{Basis}
use Rattle.regions.specs.Settled.{Possible, Settled, single, multi, known, free, settle}
use Rattle.region_states.specs.conflicts.SameFacts.{are_compatible, match_all, rows_match}
use Rattle.containment.specs.declared.same_conflicts.written.Written.{Written}
use Rattle.containment.specs.same_conflicts.Written.{region_in}

-- what a settled cell can hold
abbrev pub held_by : Settled → Possible
held_by (known value) = single value
held_by (free one nullable) = multi nullable

-- whether two cells that can hold this can hold the same
abbrev pub can_be_same : Possible → Possible → Bool
can_be_same (single one) (single two) = same_value one two
can_be_same (single value) (multi nullable) = same_value value Null && nullable
can_be_same (multi nullable) (single value) = same_value value Null && nullable
can_be_same (multi nullable) (multi other) = true

-- whether cells can hold the same one by one, where these atoms are told of the two regions
abbrev pub cells_match : EntityModel → List AtomOf → List AtomOf → List (List Symbol) → List (List Symbol) → Bool
cells_match model atoms others cells faced = match_all are_compatible (map (settle model atoms) cells) (map (settle model others) faced)

-- whether two regions have rows in the same tables, which can hold the same
abbrev pub rows_alike : Basis → Written → Written → Bool
rows_alike basis one two = match_all (rows_match basis (region_in one).atoms (region_in two).atoms) one.pattern.rows two.pattern.rows

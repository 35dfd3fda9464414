-- Whether a fragment shows the row of a pattern.
-- Source: MSL version 3, Condition.
use Rattle.std.specs.Prelude.{◌&&◌, ◌++◌, List, [], Bool, true, false, not, slice_get, unwrap_or}
use Rattle.std.specs.List.{list_all}
use Rattle.round_trip.specs.Words.{ColId, EntityModel, Fragment, LinkFragment, CondOn, Test}
use Rattle.edm_types.specs.declared.mapping.CondOn.TheVariants as on
use Rattle.edm_types.specs.declared.mapping.Test.TheVariants.{IsNull, Equals}
use Rattle.condition_logic.specs.declared.atoms.AtomOf.{AtomOf}
use Rattle.schema_laws.specs.state_demand.Selecting.{passes}
use Rattle.regions.specs.declared.pattern.Symbol.{Symbol}
use Rattle.regions.specs.declared.pattern.PatternRow.{PatternRow}
use Rattle.regions.specs.Settled.{Settled, known, free, settle}

-- the symbols of a column; none where the row has no such column
abbrev pub cell_in : PatternRow → ColId → List Symbol
cell_in row col = unwrap_or (slice_get row.cells col.index) []

-- whether a settled cell passes a test, whatever its value is; a value that isn't known is taken to be no constant, and not null
abbrev pub settled_passes : Test → Settled → Bool
settled_passes test (known value) = passes test value
settled_passes (IsNull asked) (free one nullable) = not asked
settled_passes (Equals constant) (free one nullable) = false

module _ (model : EntityModel) (atoms : List AtomOf) where
  -- whether a condition is on no column, or the row meets it
  abbrev pub met_by_row : PatternRow → CondOn → Test → Bool
  met_by_row row (on.Prop p) test = true
  met_by_row row (on.Col col) test = settled_passes test (settle model atoms (cell_in row col))

  -- whether a fragment shows the row
  abbrev pub shows_row : Fragment → PatternRow → Bool
  shows_row fragment row = list_all (λ cond. met_by_row row cond.on cond.test) fragment.conds

  -- whether a link fragment shows it: no mapped key column is null besides
  abbrev pub shows_link_row : LinkFragment → PatternRow → Bool
  shows_link_row fragment row = list_all (λ cond. met_by_row row cond.on cond.test) fragment.conds
      && list_all (λ pair. settled_passes (IsNull false) (settle model atoms (cell_in row pair.col))) (fragment.first ++ fragment.second)

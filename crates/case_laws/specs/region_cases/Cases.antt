-- The case of a region: what the rows of its entities hold.
-- Source: the query views of Melnik, Adya and Bernstein, SIGMOD 2007; what a free column holds is this project's choice.
use Rattle.std.specs.Prelude.{List, map, Bool, if◌then◌else◌}
use Rattle.std.specs.List.{enumerate_from}
use Rattle.round_trip.specs.Words.{SetId, TableId, ColId, Null, EntityModel}
use Rattle.condition_logic.specs.declared.atoms.AtomOf.{AtomOf}
use Rattle.regions.specs.declared.region.Region.{Region}
use Rattle.regions.specs.declared.pattern.Symbol.{Symbol}
use Rattle.regions.specs.declared.pattern.Symbol.TheVariants as symbol
use Rattle.regions.specs.declared.pattern.PatternRow.{PatternRow}
use Rattle.regions.specs.declared.pattern.Focus.TheVariants as focus
use Rattle.regions.specs.Basis.{Basis}
use Rattle.regions.specs.Regions.{regions_of}
use Rattle.regions.specs.Patterns.{pattern_of}
use Rattle.regions.specs.Settled.{Settled, known, free, settle}
use Rattle.case_laws.specs.declared.region_cases.case.CaseCell.{CaseCell}
use Rattle.case_laws.specs.declared.region_cases.case.CaseCell.TheVariants as cell
use Rattle.case_laws.specs.declared.region_cases.case.CaseRow.{CaseRow}
use Rattle.case_laws.specs.declared.region_cases.case.Case.{Case}

-- the value that is known, or the property or the partner's key property that is shown; null and constants are always known
abbrev pub by_settled : Settled → CaseCell
by_settled (known value) = cell.Const value
by_settled (free (symbol.Prop p) nullable) = cell.Prop p
by_settled (free (symbol.End assoc first p) nullable) = cell.Partner assoc p
by_settled (free one nullable) = cell.Const Null

module _ (is_free : TableId → ColId → Bool) where
  -- a free column holds anything; another what its symbols are settled to, and null where nothing is demanded
  abbrev pub case_cell : EntityModel → List AtomOf → TableId → ColId → List Symbol → CaseCell
  case_cell model atoms t col symbols = if is_free t col then cell.Free else by_settled (settle model atoms symbols)

  abbrev pub case_row : EntityModel → List AtomOf → PatternRow → CaseRow
  case_row model atoms row = record {
    table = row.table;
    cells = map (λ placed. case_cell model atoms row.table (record { index = placed.0 }) placed.1) (enumerate_from 0 row.cells);
  }

  module _ (basis : Basis) where
    -- the case of a region
    abbrev pub case_of : Region → Case
    case_of region = record { region = region; rows = map (case_row basis.schema.model region.atoms) (pattern_of basis (focus.Entity region)).rows }

    -- the cases of a set, in the order of its regions
    abbrev pub cases_of : SetId → List Case
    cases_of s = map case_of (regions_of basis s)

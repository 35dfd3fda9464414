-- The case of a joined association: what the row of a link holds.
-- Source: the query views of Melnik, Adya and Bernstein, SIGMOD 2007; what a free column holds is this project's choice.
use Rattle.std.specs.Prelude.{List, [], map, slice_get, Bool, Option, option_map, if◌then◌else◌}
use Rattle.std.specs.List.{enumerate_from}
use Rattle.round_trip.specs.Words.{TableId, ColId, AssocId, Null, EntityModel}
use Rattle.regions.specs.declared.pattern.Symbol.{Symbol}
use Rattle.regions.specs.declared.pattern.Symbol.TheVariants as symbol
use Rattle.regions.specs.declared.pattern.PatternRow.{PatternRow}
use Rattle.regions.specs.declared.pattern.Focus.TheVariants as focus
use Rattle.regions.specs.Basis.{Basis}
use Rattle.regions.specs.Patterns.{pattern_of}
use Rattle.regions.specs.Settled.{Settled, known, free, settle}
use Rattle.case_laws.specs.declared.region_cases.link_case.LinkCaseCell.{LinkCaseCell}
use Rattle.case_laws.specs.declared.region_cases.link_case.LinkCaseCell.TheVariants as cell
use Rattle.case_laws.specs.declared.region_cases.link_case.LinkCase.{LinkCase}

-- the value that is known, or the part of the key at an end that is shown; null and constants are always known
abbrev pub end_by_settled : Settled → LinkCaseCell
end_by_settled (known value) = cell.Const value
end_by_settled (free (symbol.End assoc first p) nullable) = cell.End first p
end_by_settled (free one nullable) = cell.Const Null

module _ (is_free : TableId → ColId → Bool) where
  -- a free column holds anything; another what its symbols are settled to where nothing is told of a property
  abbrev pub link_cell : EntityModel → TableId → ColId → List Symbol → LinkCaseCell
  link_cell model t col symbols = if is_free t col then cell.Free else end_by_settled (settle model [] symbols)

  abbrev pub link_row : EntityModel → AssocId → PatternRow → LinkCase
  link_row model a row = record {
    assoc = a;
    table = row.table;
    cells = map (λ placed. link_cell model row.table (record { index = placed.0 }) placed.1) (enumerate_from 0 row.cells);
  }

  -- the case of an association, by the first row of its pattern; None where there is no row
  abbrev pub link_case_of : Basis → AssocId → Option LinkCase
  link_case_of basis a = option_map (link_row basis.schema.model a) (slice_get (pattern_of basis (focus.Link a)).rows 0)

-- The rows of cases by their tables.
-- Source: this project's.
use Rattle.std.specs.Prelude.{ℕ, List, map, Contains}
use Rattle.std.specs.BTreeMap.{BTreeMap}
use Rattle.std.specs.Global.{Vec}
use Rattle.std.specs.Ordering.{nat_cmp}
use Rattle.groupings.specs.item_groups.Groups.{items_at}
use Rattle.regions.specs.declared.region.Region.{Region}
use Rattle.case_laws.specs.declared.region_cases.case.Case.{Case}
use Rattle.case_laws.specs.declared.region_cases.case.CaseRow.{CaseRow}
use Rattle.query_cases.specs.declared.case_index.told.ToldRow.{ToldRow}

-- the region and the row
abbrev pub shown_told : ToldRow → Region × CaseRow
shown_told told = (told.region.now, told.row.now)

-- with the number of a table
abbrev pub keyed_row : ℕ × ToldRow → ℕ × (Region × CaseRow)
keyed_row keyed = (keyed.0, shown_told keyed.1)

-- a row of a region's case, with the number of its table
abbrev pub case_row : Region → CaseRow → ℕ × (Region × CaseRow)
case_row region row = (row.table.index, (region, row))

-- all of a case
abbrev pub case_rows : Case → List (ℕ × (Region × CaseRow))
case_rows case = map (case_row case.region) case.rows

-- what is listed of a table
abbrev pub listed_at : BTreeMap ℕ (Vec ToldRow) → ℕ → List ToldRow
listed_at by_table t = items_at nat_cmp by_table t

-- each row of a case is listed at its table
abbrev pub GroupRows : List Case → BTreeMap ℕ (Vec ToldRow) → Type 0
GroupRows cases by_table = (case : Case) (row : CaseRow) → Contains cases case → Contains case.rows row
    → Contains (map shown_told (listed_at by_table row.table.index)) (case.region, row)

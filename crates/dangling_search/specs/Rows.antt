-- The tables in which the entities of a region have a row.
-- Source: this project's.
use Rattle.std.specs.Prelude.{◌≡◌, ◌==◌, List, map, Bool, Option, None, Some, if◌then◌else◌}
use Rattle.std.specs.List.{list_any}
use Rattle.round_trip.specs.Words.{TableId}
use Rattle.regions.specs.Basis.{Basis}
use Rattle.regions.specs.Patterns.{pattern_of}
use Rattle.regions.specs.declared.pattern.Focus.TheVariants as focus
use Rattle.regions.specs.declared.region.Region.{Region}
use Rattle.region_partition.specs.set_regions.Regions.{AreRegions}
use Rattle.dangling_search.specs.declared.region_rows.RegionRows.{RegionRows}

-- the tables of a region's rows
abbrev pub tables_of : Basis → Region → List TableId
tables_of basis region = map (λ row. row.table) (pattern_of basis (focus.Entity region)).rows

-- a region with these
abbrev pub region_rows : Basis → Region → RegionRows
region_rows basis region = record { region = region; tables = tables_of basis region }

-- whether the table is one of them
abbrev pub writes : TableId → RegionRows → Bool
writes t rows = list_any (λ one. one.index == t.index) rows.tables

-- the region, where it isn't
abbrev pub lacking : TableId → RegionRows → Option Region
lacking t rows = if writes t rows then None else Some rows.region

-- the regions of all sets, each with its tables
pub record AreRows (basis : Basis) (rows : List (List RegionRows)) : Type 0 where
  pub regions : List (List Region)
  pub are : AreRegions basis regions
  pub made : rows ≡ map (map (region_rows basis)) regions

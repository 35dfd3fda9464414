-- What an accepted mapping is, and what it is made of.
-- Source: this project's; CSDL, SSDL and MSL version 3, and the regions of entity states of Melnik, Adya and Bernstein, SIGMOD 2007.
use Rattle.std.specs.Prelude.{◌≡◌, List, None}
use Rattle.round_trip.specs.Words.{Keeps, RoundTrips, Schema}
use Rattle.cells.specs.declared.cells.Cells.{Cells}
use Rattle.cells.specs.declared.parts.Parts.{Parts}
use Rattle.cells.specs.Cells.{is_free_in}
use Rattle.cells.specs.Parts.{AreParts, schema_in}
use Rattle.regions.specs.declared.region.Region.{Region}
use Rattle.region_states.specs.region_basis.BasisOf.{basis_of}
use Rattle.region_partition.specs.mapping_limits.FirstLimit.{IsFirstLimit}
use Rattle.region_partition.specs.set_regions.Regions.{AreRegions}
use Rattle.update_views.specs.Views.{AreViewsOf}
use Rattle.query_views.specs.declared.views.QueryViews.{QueryViews}
use Rattle.query_views.specs.Views.{AreQueryViewsOf}
use Rattle.mapping_core.specs.declared.compiled.MappingViews.{MappingViews}

-- no limit is passed
abbrev pub PassesNoLimit : Schema → Type 0
PassesNoLimit schema = IsFirstLimit schema None

-- What makes documents that break no rule accepted, by the schema that they mean: no limit is passed, no legal state fails, and every one has tables of its
-- own.
pub record IsAccepted (schema : Schema) : Type 0 where
  pub within : PassesNoLimit schema
  pub round_trips : RoundTrips schema
  pub keeps : Keeps schema

-- these are the cells of the schema, and the regions of each entity set
pub record HasRegions (schema : Schema) (cells : Cells) (regions : List (List Region)) : Type 0 where
  pub parts : Parts
  pub of_schema : schema_in parts ≡ schema
  pub of_cells : parts.cells.now ≡ cells
  pub are_parts : AreParts parts
  pub are_regions : AreRegions (basis_of parts) regions

-- and these are the views
pub record AreMadeOf (schema : Schema) (cells : Cells) (regions : List (List Region)) (views : MappingViews) : Type 0 where
  pub has : HasRegions schema cells regions
  pub are_update_views : AreViewsOf (basis_of has.parts) views.update
  pub are_query_views : AreQueryViewsOf (basis_of has.parts) (is_free_in has.parts.cells.now) views.query

-- these are the query views of the schema, by its cells
pub record HasQueryViews (schema : Schema) (views : QueryViews) : Type 0 where
  pub parts : Parts
  pub of_schema : schema_in parts ≡ schema
  pub are_parts : AreParts parts
  pub are : AreQueryViewsOf (basis_of parts) (is_free_in parts.cells.now) views

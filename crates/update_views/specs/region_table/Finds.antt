-- What a table of the regions of a set is for.
-- Source: this project's; the update views of Melnik, Adya and Bernstein, SIGMOD 2007, which store an entity by its kind.
use Rattle.std.specs.Prelude.{◌≡◌, ℕ, List, Contains, Some, None}
use Rattle.round_trip.specs.Words.{SetId, Entity, Hosted, At}
use Rattle.regions.specs.declared.region.Region.{Region}
use Rattle.regions.specs.Basis.{Basis}
use Rattle.regions.specs.Regions.{Holds, regions_of}
use Rattle.update_views.specs.declared.region_table.numbering.RegionTable.{RegionTable}
use Rattle.update_views.specs.region_table.Numbers.{place_in}

-- it tells the place of a region that holds an entity with the links that it hosts, and none only where none of the set's regions does
pub record Finds (basis : Basis) (s : SetId) (table : RegionTable) : Type 0 where
  pub found : (entity : Entity) (links : List Hosted) (place : ℕ) → place_in table entity links ≡ Some place
      → (region : Region) × At (regions_of basis s) place region × Holds basis region entity links
  pub none : (entity : Entity) (links : List Hosted) → place_in table entity links ≡ None
      → (region : Region) → Contains (regions_of basis s) region → ¬ Holds basis region entity links

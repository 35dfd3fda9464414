-- The regions of all entity sets.
-- Source: the regions of entity states of Melnik, Adya and Bernstein, SIGMOD 2007, for the sets of CSDL version 3.
use Rattle.std.specs.Prelude.{◌≡◌, List, length}
use Rattle.round_trip.specs.Words.{SetId, At}
use Rattle.regions.specs.declared.region.Region.{Region}
use Rattle.regions.specs.Basis.{Basis}
use Rattle.regions.specs.Regions.{regions_of}

-- for each set, in the order of the model, its regions in their order
pub record AreRegions (basis : Basis) (regions : List (List Region)) : Type 0 where
  pub count : length regions ≡ length basis.schema.model.sets
  pub each : (s : SetId) (of_set : List Region) → At regions s.index of_set → of_set ≡ regions_of basis s

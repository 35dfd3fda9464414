-- What is answered where the regions of a set are asked for, with the most that are allowed.
-- Source: the limit of this project's profile on the regions of a set.
use Rattle.std.specs.Prelude.{◌≡◌, ◌≤◌, ◌<◌, ℕ, List, Result, Ok, Err}
use Rattle.std.specs.Bool.{⊤}
use Rattle.round_trip.specs.Words.{SetId}
use Rattle.regions.specs.declared.region.Region.{Region}
use Rattle.regions.specs.Basis.{Basis}
use Rattle.regions.specs.Regions.{count_of}
use Rattle.region_partition.specs.declared.region_lists.listing.RegionsFault.{RegionsFault}
use Rattle.region_partition.specs.declared.region_lists.listing.RegionsFault.TheVariants.{Limit, Memory}

-- the limit is told exactly where there are more regions than are allowed, with their number
abbrev pub TellsLimit : Basis → SetId → ℕ → Result (List Region) RegionsFault → Type 0
TellsLimit basis s allowed (Ok regions) = ⊤
TellsLimit basis s allowed (Err (Limit counted asked)) = (counted ≡ count_of basis s) × (asked ≡ allowed) × (allowed < counted)
TellsLimit basis s allowed (Err Memory) = count_of basis s ≤ allowed

-- The basis by which cells tell the regions of their mapping.
-- Source: this project's profile of MSL version 3: the groups of properties and columns, and where links stand.
use Rattle.std.specs.Prelude.{◌==◌, ℕ, List, [], ◌∷◌, slice_get, flat_map, Bool, false, Option, None, Some, unwrap_or, option_and_then, if◌then◌else◌}
use Rattle.std.specs.List.{enumerate_from}
use Rattle.std.specs.Option.{option_map_or}
use Rattle.round_trip.specs.Words.{SetId, AssocId, EntityModel, Assoc}
use Rattle.table_owners.specs.declared.places.LinkPlace.{LinkPlace}
use Rattle.table_owners.specs.declared.places.LinkPlace.TheVariants as place
use Rattle.member_groups.specs.MemberGroups.{constants_in, group_in, is_tested_in}
use Rattle.schema_laws.specs.sound_demand.Deriving.{derives}
use Rattle.cells.specs.declared.parts.Parts.{Parts}
use Rattle.cells.specs.Parts.{schema_in}
use Rattle.regions.specs.Fitting.{fits}
use Rattle.regions.specs.Basis.{Basis, Host, host_end}

-- an association as one that is hosted at the set, if it is told so
abbrev pub host_by : SetId → AssocId → Assoc → LinkPlace → List Host
host_by s a assoc (place.Hosted first_hosts number) = if (host_end first_hosts assoc).set.index == s.index then record { assoc = a; first_hosts = first_hosts } ∷ [] else []
host_by s a assoc _ = []

-- an association as one that is hosted, where an end is told
abbrev pub hosts_told : AssocId → Option Bool → List Host
hosts_told a None = []
hosts_told a (Some first_hosts) = record { assoc = a; first_hosts = first_hosts } ∷ []

-- a numbered association as one that is hosted at the set, if it is told so
abbrev pub host_at : List LinkPlace → SetId → ℕ × Assoc → List Host
host_at places s entry = host_by s (record { index = entry.0 }) entry.1 (unwrap_or (slice_get places entry.0) place.Unmapped)

-- the associations that are hosted at a set, in their order
abbrev pub hosts_in : EntityModel → List LinkPlace → SetId → List Host
hosts_in model places s = flat_map (host_at places s) (enumerate_from 0 model.assocs)

-- the basis of a mapping with its cells
abbrev pub basis_of : Parts → Basis
basis_of parts = record {
  schema = schema_in parts;
  is_a = derives (schema_in parts).model;
  fits = fits;
  group = λ member. group_in parts.cells.now.groups member;
  constants = λ member. unwrap_or (option_and_then (constants_in parts.cells.now.groups) (group_in parts.cells.now.groups member)) [];
  tested = λ member. option_map_or (is_tested_in parts.cells.now.groups) (group_in parts.cells.now.groups member) false;
  hosts = hosts_in (schema_in parts).model parts.cells.now.places;
}

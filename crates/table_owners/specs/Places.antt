-- Where the links of each association set stand.
-- Source: the profile's choice of how MSL version 3, AssociationSetMapping, may map an association; CSDL version 3, ReferentialConstraint.
use Rattle.std.specs.Prelude.{◌≡◌, ℕ, List, length, Contains, Bool, true, false, if◌then◌else◌}
use Rattle.std.specs.Option.{option_map_or}
use Rattle.round_trip.specs.Words.{AssocId, LinkFragId, Assoc, LinkFragment, Schema, At, IsIndependent}
use Rattle.round_trip.specs.FailsAt.{IsHostedAt, IsUnmapped}
use Rattle.round_trip.specs.soundness.mappings.Owners.{IsJoined}
use Rattle.table_owners.specs.declared.places.LinkPlace.{LinkPlace}
use Rattle.table_owners.specs.declared.places.LinkPlace.TheVariants.{Hosted, Joined, Unmapped, Constraint}
use Rattle.table_owners.specs.declared.sources.Standing.{Standing}
use Rattle.table_owners.specs.declared.sources.Standing.TheVariants.{AtFirst, AtSecond, Apart}
use Rattle.table_owners.specs.Sources.{Stands}

-- the association set is independent, and the mapping's link fragment of this number maps it
pub record IsMappedBy (schema : Schema) (a : AssocId) (assoc : Assoc) (number : LinkFragId) (fragment : LinkFragment) : Type 0 where
  pub independent : IsIndependent assoc
  pub is_fragment : At schema.mapping.links number.index fragment
  pub of_assoc : fragment.assoc ≡ a

-- the links are rows of their own: the columns of both ends together are the primary key, and those of neither end alone are
pub record StandApart (schema : Schema) (fragment : LinkFragment) (assoc : Assoc) : Type 0 where
  pub joined : IsJoined schema fragment assoc
  pub first : ¬ IsHostedAt schema fragment.table fragment.first
  pub second : ¬ IsHostedAt schema fragment.table fragment.second

-- what is told of an association set: an end at which its links are hosted, that they are joined, that no fragment maps it, or that it has a constraint
abbrev pub TellsPlace : Schema → AssocId → Assoc → LinkPlace → Type 0
TellsPlace schema a assoc (Hosted first_hosts number) = (fragment : LinkFragment) × IsMappedBy schema a assoc number fragment
    × IsHostedAt schema fragment.table (if first_hosts then fragment.first else fragment.second)
TellsPlace schema a assoc (Joined number) = (fragment : LinkFragment) × IsMappedBy schema a assoc number fragment × StandApart schema fragment assoc
TellsPlace schema a assoc Unmapped = IsUnmapped schema a assoc
TellsPlace schema a assoc Constraint = ¬ IsIndependent assoc

-- it is told of each association set
pub record TellPlaces (schema : Schema) (places : List LinkPlace) : Type 0 where
  pub size : length places ≡ length schema.model.assocs
  pub each : (a : AssocId) (assoc : Assoc) (place : LinkPlace) → At schema.model.assocs a.index assoc → At places a.index place → TellsPlace schema a assoc place

-- the links of an association set are told as hosted, at the first end or at the second
abbrev pub AreToldHosted : List LinkPlace → AssocId → Bool → Type 0
AreToldHosted places a first_hosts = (number : LinkFragId) × At places a.index (Hosted first_hosts number)

-- a fragment maps the association set, and writes the key of this end to a whole primary key
pub record AreHosted (schema : Schema) (a : AssocId) (first_hosts : Bool) : Type 0 where
  pub fragment : LinkFragment
  pub is_fragment : Contains schema.mapping.links fragment
  pub of_assoc : fragment.assoc ≡ a
  pub hosted : IsHostedAt schema fragment.table (if first_hosts then fragment.first else fragment.second)

-- where links stand that no fragment writes
abbrev pub place_without : Assoc → LinkPlace
place_without assoc = option_map_or (λ constraint. Constraint) assoc.constraint Unmapped

-- where links stand that this fragment writes
abbrev pub place_by : LinkFragId → Standing → LinkPlace
place_by number AtFirst = Hosted true number
place_by number AtSecond = Hosted false number
place_by number Apart = Joined number

-- the place of the association set that a fragment maps
abbrev pub maps_to : LinkFragment → ℕ
maps_to fragment = fragment.assoc.index

-- where the links stand that the fragment of this number writes
abbrev pub IsLinkPlace : Schema → ℕ → LinkFragment → LinkPlace → Type 0
IsLinkPlace schema number fragment place = (standing : Standing) × Stands schema fragment standing × (place ≡ place_by (record { index = number }) standing)

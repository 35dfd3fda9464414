-- By what each table is written, as it is found.
-- Source: MSL version 3, MappingFragment and AssociationSetMapping.
use Rattle.std.specs.Prelude.{◌≡◌, ◌==◌, ℕ, List, [], length, slice_get, Option, Some, None, MatchOption, option_and_then, option_map}
use Rattle.std.specs.List.{filter_map, find}
use Rattle.std.specs.Option.{option_map_or, unwrap_or}
use Rattle.round_trip.specs.Words.{PropId, TableId, ColId, EntityModel, Assoc, Mapping, Fragment, Pair, LinkFragment, Schema, At, IsWritten}
use Rattle.round_trip.specs.FailsAt.{IsHostedAt}
use Rattle.table_owners.specs.declared.table_writers.writer.Owner.{Owner}
use Rattle.table_owners.specs.declared.table_writers.writer.Owner.TheVariants as told
use Rattle.table_owners.specs.declared.sources.Source.{Source}
use Rattle.table_owners.specs.declared.sources.Source.TheVariants.{Entities, Links}
use Rattle.table_owners.specs.declared.sources.Standing.{Standing}
use Rattle.table_owners.specs.declared.sources.Standing.TheVariants.{AtFirst, AtSecond, Apart}

-- how links stand in their table: hosted at the first end, at the second, or at none
abbrev pub Stands : Schema → LinkFragment → Standing → Type 0
Stands schema fragment AtFirst = IsHostedAt schema fragment.table fragment.first
Stands schema fragment AtSecond = IsHostedAt schema fragment.table fragment.second
Stands schema fragment Apart = (¬ IsHostedAt schema fragment.table fragment.first) × ¬ IsHostedAt schema fragment.table fragment.second

-- the place of the table that a fragment writes
abbrev pub writes_to : Fragment → ℕ
writes_to fragment = fragment.table.index

-- the same for a fragment of links
abbrev pub links_to : LinkFragment → ℕ
links_to fragment = fragment.table.index

-- the fragment of this number, as a source
abbrev pub IsEntitySource : ℕ → Fragment → Option Source → Type 0
IsEntitySource number fragment source = source ≡ Some (Entities (record { index = number }))

-- the same for a fragment of links
abbrev pub IsLinkSource : Schema → ℕ → LinkFragment → Option Source → Type 0
IsLinkSource schema number fragment source = (standing : Standing) × Stands schema fragment standing × (source ≡ Some (Links (record { index = number }) standing))

-- the table is written by it
abbrev pub IsSource : Schema → TableId → Source → Type 0
IsSource schema t (Entities number) = (fragment : Fragment) × At schema.mapping.fragments number.index fragment × (fragment.table ≡ t)
IsSource schema t (Links number standing) = (fragment : LinkFragment) × At schema.mapping.links number.index fragment × (fragment.table ≡ t) × Stands schema fragment standing

-- for each table something by which it is written, or nothing where nothing writes it
pub record AreSources (schema : Schema) (sources : List (Option Source)) : Type 0 where
  pub size : length sources ≡ length schema.store.tables
  pub each : (t : TableId) (source : Option Source) → At sources t.index source → MatchOption source (¬ IsWritten schema.mapping t) (IsSource schema t)

-- whose rows the links of a fragment are, or stand with
abbrev pub owner_of_links : LinkFragment → Assoc → Standing → Owner
owner_of_links fragment assoc AtFirst = told.Set assoc.first.set
owner_of_links fragment assoc AtSecond = told.Set assoc.second.set
owner_of_links fragment assoc Apart = told.Assoc fragment.assoc

-- whose rows are written by a source
abbrev pub owner_from : EntityModel → Mapping → Source → Option Owner
owner_from model mapping (Entities number) = option_map (λ fragment. told.Set fragment.set) (slice_get mapping.fragments number.index)
owner_from model mapping (Links number standing) =
    option_and_then (λ fragment. option_map (λ assoc. owner_of_links fragment assoc standing) (slice_get model.assocs fragment.assoc.index)) (slice_get mapping.links number.index)

-- the same where there may be none
abbrev pub owner_by : EntityModel → Mapping → Option Source → Option Owner
owner_by model mapping source = option_and_then (owner_from model mapping) source

-- by which pairs a source writes a set's key
abbrev pub pairs_by : Mapping → Source → Option (List Pair)
pairs_by mapping (Entities number) = option_map (λ fragment. fragment.pairs) (slice_get mapping.fragments number.index)
pairs_by mapping (Links number AtFirst) = option_map (λ fragment. fragment.first) (slice_get mapping.links number.index)
pairs_by mapping (Links number AtSecond) = option_map (λ fragment. fragment.second) (slice_get mapping.links number.index)
pairs_by mapping (Links number Apart) = None

-- the same for the source of the table at a place
abbrev pub pairs_at : Mapping → List (Option Source) → ℕ → Option (List Pair)
pairs_at mapping sources place = option_and_then (pairs_by mapping) (unwrap_or (slice_get sources place) None)

-- the property that the first of the pairs with the column writes to it
abbrev pub prop_beside : List Pair → ColId → Option PropId
prop_beside pairs col = option_map (λ pair. pair.prop) (find (λ pair. pair.col.index == col.index) pairs)

-- the properties that are written to these columns, in their order; none where there are no pairs
abbrev pub props_beside : List ColId → Option (List Pair) → List PropId
props_beside cols pairs = option_map_or (λ some. filter_map (prop_beside some) cols) pairs []

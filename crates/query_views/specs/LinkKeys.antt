-- The keys of links, one behind the other, as they are gathered from entities and from rows.
-- Source: the query views of Melnik, Adya and Bernstein, SIGMOD 2007.
use Rattle.std.specs.Prelude.{◌≡◌, ◌⊎◌, ◌++◌, ◌==◌, ◌↔◌, List, map, filter, All, Contains, Bool, if◌then◌else◌}
use Rattle.std.specs.Borrow.{Bor}
use Rattle.std.specs.Global.{Vec}
use Rattle.std.specs.List.{AllZip, flat_map}
use Rattle.round_trip.specs.Words.{AssocId, Assoc, At, TableId, ColId, LinkFragId, PropId, EntityModel, Link, LinkFragment, Pair, Schema, Tables, Value, cells_of, key_props, rows_in}
use Rattle.schema_laws.specs.state_demand.Owners.{IsJoinedTo}
use Rattle.regions.specs.Basis.{Basis}
use Rattle.case_laws.specs.candidates.Rows.{shown_rows}
use Rattle.case_laws.specs.candidates.ViewedLinks.{IsHostedView, IsJoinedView}
use Rattle.keyed_rows.specs.row_groups.Shown.{shown_cells}
use Rattle.query_cases.specs.declared.case_reading.reading.LinkReading.{LinkReading}
use Rattle.query_cases.specs.case_reading.Links.{HasPlace}
use Rattle.query_cases.specs.case_reading.Sources.{cell_at}
use Rattle.query_views.specs.declared.lending.LentEntity.{LentEntity}

-- the keys that are gathered
abbrev pub shown_keys : {X : Type 0} → List (Vec (Bor Value) × X) → List (List Value)
shown_keys keyed = map (λ one. shown_cells one.0) keyed

-- both keys of a link that an entity hosts: its own and its partner's, that of the first end first
abbrev pub host_keys : Bool → LentEntity → LinkReading → List Value
host_keys first_hosts lent link =
    if first_hosts then shown_cells lent.key ++ map (cell_at (shown_rows lent.rows.items)) link.parts
    else map (cell_at (shown_rows lent.rows.items)) link.parts ++ shown_cells lent.key

-- those of its links of an association
abbrev pub keys_hosted_by : AssocId → Bool → LentEntity → List (List Value)
keys_hosted_by a first_hosts lent = map (host_keys first_hosts lent) (filter (λ link. link.assoc.index == a.index) lent.met.reading.now.links)

-- and those of all these entities
abbrev pub hosted_keys : AssocId → Bool → List LentEntity → List (List Value)
hosted_keys a first_hosts lent = flat_map (keys_hosted_by a first_hosts) lent

-- a property is written to the column
abbrev pub IsPairedWith : List Pair → PropId → ColId → Type 0
IsPairedWith pairs prop col = Contains pairs (record { prop = prop; col = col })

-- the columns to which the keys at both ends are written
pub record AreKeyColumns (model : EntityModel) (assoc : Assoc) (fragment : LinkFragment) (cols : List ColId) : Type 0 where
  pub first : List ColId
  pub second : List ColId
  pub are : cols ≡ first ++ second
  pub of_first : AllZip (IsPairedWith fragment.first) (key_props model assoc.first.ty) first
  pub of_second : AllZip (IsPairedWith fragment.second) (key_props model assoc.second.ty) second

-- each part of a link's key that is read of the entity's rows stands in one of them
abbrev pub HaveLinkCells : LentEntity → Type 0
HaveLinkCells lent = All (λ link. All (HasPlace (shown_rows lent.rows.items)) link.parts) lent.met.reading.now.links

-- the fragment of this number is one of the association, and its table the association's own
pub record IsJoinedAt (schema : Schema) (assoc : Assoc) (number : LinkFragId) : Type 0 where
  pub fragment : LinkFragment
  pub is_fragment : At schema.mapping.links number.index fragment
  pub joined : IsJoinedTo schema fragment.table fragment assoc

-- what the rows of its table hold in the columns of both keys
pub record ShowJoinedKeys (schema : Schema) (assoc : Assoc) (number : LinkFragId) (tables : Tables) (keys : List (List Value)) : Type 0 where
  pub fragment : LinkFragment
  pub is_fragment : At schema.mapping.links number.index fragment
  pub cols : List ColId
  pub are_columns : AreKeyColumns schema.model assoc fragment cols
  pub are : keys ≡ map (λ row. cells_of row cols) (rows_in tables fragment.table)

-- just the keys of the links of an association that are given, each link's keys one behind the other
pub record AreLinkKeys (basis : Basis) (is_free : TableId → ColId → Bool) (tables : Tables) (a : AssocId) (keys : List (List Value)) : Type 0 where
  pub are : (both : List Value) → Contains keys both
      ↔ ((link : Link) × (IsHostedView basis is_free tables a link ⊎ IsJoinedView basis is_free tables a link) × (both ≡ link.first ++ link.second))

-- Where a fragment agrees with the tables: what its entities or links write is what its table shows.
-- Source: MSL version 3; the equations between select-project queries of Melnik, Adya and Bernstein, SIGMOD 2007.
use Rattle.std.specs.Prelude.{◌≡◌, List, ◌++◌, map, Contains, All}
use Rattle.round_trip.specs.Types.{Value, Assoc, Fragment, LinkFragment, Schema, Entity, Link, Row, At, State, entities_in, links_in, Tables, rows_in, cells_of, Selects, Shows, ShowsLink}
use Rattle.round_trip.specs.Demand.{entity_cells, link_cells}

-- the tuple is written by a selected entity
abbrev pub IsWrittenTuple : Schema → State → Fragment → List Value → Type 0
IsWrittenTuple schema state fragment tuple = (entity : Entity) × Contains (entities_in state fragment.set) entity
    × Selects schema.model fragment entity × (tuple ≡ map (λ cell. cell.1) (entity_cells schema.model fragment entity))

-- the tuple stands in the written columns of a shown row
abbrev pub IsShownTuple : Tables → Fragment → List Value → Type 0
IsShownTuple tables fragment tuple = (row : Row) × Contains (rows_in tables fragment.table) row
    × Shows fragment row × (tuple ≡ cells_of row (map (λ pair. pair.col) fragment.pairs))

-- the tuple is written by a link
abbrev pub IsWrittenLinkTuple : Schema → State → LinkFragment → List Value → Type 0
IsWrittenLinkTuple schema state fragment tuple = (assoc : Assoc) × (link : Link) × At schema.model.assocs fragment.assoc.index assoc
    × Contains (links_in state fragment.assoc) link × (tuple ≡ map (λ cell. cell.1) (link_cells schema.model assoc fragment link))

-- the tuple stands in the key columns of a shown row
abbrev pub IsShownLinkTuple : Tables → LinkFragment → List Value → Type 0
IsShownLinkTuple tables fragment tuple = (row : Row) × Contains (rows_in tables fragment.table) row
    × ShowsLink fragment row × (tuple ≡ cells_of row (map (λ pair. pair.col) (fragment.first ++ fragment.second)))

-- the two sets of tuples are one
pub record AreSameTuples (Written Shown : List Value → Type 0) : Type 0 where
  pub shown : (tuple : List Value) → Written tuple → Shown tuple
  pub written : (tuple : List Value) → Shown tuple → Written tuple

-- each fragment agrees with the tables
pub record Satisfies (schema : Schema) (state : State) (tables : Tables) : Type 0 where
  pub fragments : All (λ fragment. AreSameTuples (IsWrittenTuple schema state fragment) (IsShownTuple tables fragment)) schema.mapping.fragments
  pub links : All (λ fragment. AreSameTuples (IsWrittenLinkTuple schema state fragment) (IsShownLinkTuple tables fragment)) schema.mapping.links

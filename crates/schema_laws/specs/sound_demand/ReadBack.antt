-- Rows read back: which entity or link a row is of, and what its cells hold.
-- Source: MSL version 3; the query views of Melnik, Adya and Bernstein, SIGMOD 2007.
use Rattle.std.specs.Prelude.{◌≡◌, ◌↔◌, ◌++◌, List, Any, Contains, map}
use Rattle.round_trip.specs.Words.{SetId, TableId, ColId, Value, Null, AreSameTuples, Assoc, Column, Entity, Fragment, IsShownLinkTuple, IsShownTuple, IsWrittenLinkTuple, IsWrittenTuple, Link, LinkFragment, Pair, Row, Schema, Selects, Shows, ShowsLink, State, Table, Tables, At, Writing, Fills, cell_of, cells_of, entities_in, entity_cells, link_cells, links_in, row_key, rows_in, written_key}
use Rattle.schema_laws.specs.state_demand.Owners.{IsLinkOf, IsWritingOf, StandsAt, paired_key}
use Rattle.schema_laws.specs.state_demand.WellWritten.{cols_of}
use Rattle.schema_laws.specs.state_demand.Writings.{link_writing}
use Rattle.schema_laws.specs.sound_demand.Fragments.{IsHostedFragment, IsJoinedFragment, IsOwnedFragment}

-- a writing of the entity to the table
abbrev pub WritesTo : Schema → State → TableId → SetId → List Pair → Entity → Writing → Type 0
WritesTo schema state t owner pairing entity writing = (writing.table ≡ t) × IsWritingOf schema state owner pairing entity writing

-- the rows are those of the entities that write to the table; each cell holds what its entity writes there, or null
pub record AreRowsOf (schema : Schema) (state : State) (tables : Tables) (t : TableId) (table : Table) (owner : SetId) (pairing : List Pair) : Type 0 where
  pub rows : (entity : Entity) → Contains (entities_in state owner) entity
      → Any (λ row. row_key table row ≡ paired_key schema.model pairing entity) (rows_in tables t) ↔ ((writing : Writing) × WritesTo schema state t owner pairing entity writing)
  pub entities : (row : Row) → Contains (rows_in tables t) row → (entity : Entity) × StandsAt schema state owner pairing (row_key table row) entity
  pub cells : (row : Row) → Contains (rows_in tables t) row → (entity : Entity) → StandsAt schema state owner pairing (row_key table row) entity
      → (writing : Writing) → WritesTo schema state t owner pairing entity writing → (col : ColId) (value : Value) → Fills writing col value → cell_of row col ≡ value
  pub nulls : (row : Row) → Contains (rows_in tables t) row → (entity : Entity) → StandsAt schema state owner pairing (row_key table row) entity
      → (col : ColId) (column : Column) → At table.cols col.index column
      → ((writing : Writing) (value : Value) → WritesTo schema state t owner pairing entity writing → ¬ Fills writing col value) → cell_of row col ≡ Null

-- the link's row
abbrev pub IsRowOfLink : Schema → LinkFragment → Assoc → Table → Link → Row → Type 0
IsRowOfLink schema fragment assoc table link row = row_key table row ≡ written_key schema.store (link_writing schema.model fragment assoc link)

-- rows and links correspond one to one, and each cell holds what its link writes there
pub record AreRowsOfLinks (schema : Schema) (state : State) (tables : Tables) (t : TableId) (table : Table) (fragment : LinkFragment) (assoc : Assoc) : Type 0 where
  pub rows : (link : Link) → Contains (links_in state fragment.assoc) link → (row : Row) × Contains (rows_in tables t) row × IsRowOfLink schema fragment assoc table link row
  pub links : (row : Row) → Contains (rows_in tables t) row → (link : Link) × Contains (links_in state fragment.assoc) link × IsRowOfLink schema fragment assoc table link row
  pub one_row : (link : Link) (one two : Row) → Contains (rows_in tables t) one → Contains (rows_in tables t) two
      → IsRowOfLink schema fragment assoc table link one → IsRowOfLink schema fragment assoc table link two → one ≡ two
  pub one_link : (row : Row) (one two : Link) → Contains (links_in state fragment.assoc) one → Contains (links_in state fragment.assoc) two
      → IsRowOfLink schema fragment assoc table one row → IsRowOfLink schema fragment assoc table two row → one ≡ two
  pub cells : (link : Link) (row : Row) → Contains (links_in state fragment.assoc) link → Contains (rows_in tables t) row → IsRowOfLink schema fragment assoc table link row
      → (col : ColId) (value : Value) → Fills (link_writing schema.model fragment assoc link) col value → cell_of row col ≡ value

-- the fragment shows the row of an entity exactly where it selects the entity
abbrev pub AgreesAtEntities : Schema → State → Tables → SetId → List Pair → Fragment → Table → Type 0
AgreesAtEntities schema state tables owner pairing fragment table = (row : Row) → Contains (rows_in tables fragment.table) row
    → (entity : Entity) → StandsAt schema state owner pairing (row_key table row) entity → Selects schema.model fragment entity ↔ Shows fragment row

-- a link of the fragment's association is hosted at the entity
abbrev pub HasLinkOf : Schema → State → SetId → List Pair → Assoc → LinkFragment → Entity → Type 0
HasLinkOf schema state owner pairing assoc fragment entity =
    (link : Link) × Contains (links_in state fragment.assoc) link × IsLinkOf schema owner pairing assoc fragment link entity

-- the link fragment shows the row of an entity exactly where a link of its association is hosted at the entity
abbrev pub AgreesAtHosts : Schema → State → Tables → SetId → List Pair → LinkFragment → Assoc → Table → Type 0
AgreesAtHosts schema state tables owner pairing fragment assoc table = (row : Row) → Contains (rows_in tables fragment.table) row
    → (entity : Entity) → StandsAt schema state owner pairing (row_key table row) entity
    → HasLinkOf schema state owner pairing assoc fragment entity ↔ ShowsLink fragment row

-- the link fragment of a joined association shows every row
abbrev pub ShowsEveryRow : Tables → LinkFragment → Type 0
ShowsEveryRow tables fragment = (row : Row) → Contains (rows_in tables fragment.table) row → ShowsLink fragment row

-- each fragment of a set that owns its table agrees with the tables exactly where it does at each entity
abbrev pub AgreementIsAtEntities : Schema → State → Tables → Type 0
AgreementIsAtEntities schema state tables = (owner : SetId) (pairing : List Pair) (fragment : Fragment) (table : Table) → IsOwnedFragment schema owner pairing fragment table
    → AreSameTuples (IsWrittenTuple schema state fragment) (IsShownTuple tables fragment) ↔ AgreesAtEntities schema state tables owner pairing fragment table

-- each hosted link fragment does so exactly where it does at each host
abbrev pub AgreementIsAtHosts : Schema → State → Tables → Type 0
AgreementIsAtHosts schema state tables = (owner : SetId) (pairing : List Pair) (assoc : Assoc) (fragment : LinkFragment) (table : Table)
    → IsHostedFragment schema owner pairing assoc fragment table
    → AreSameTuples (IsWrittenLinkTuple schema state fragment) (IsShownLinkTuple tables fragment) ↔ AgreesAtHosts schema state tables owner pairing fragment assoc table

-- and each joined one exactly where it shows every row
abbrev pub AgreementIsAtRows : Schema → State → Tables → Type 0
AgreementIsAtRows schema state tables = (assoc : Assoc) (fragment : LinkFragment) (table : Table) → IsJoinedFragment schema assoc fragment table
    → AreSameTuples (IsWrittenLinkTuple schema state fragment) (IsShownLinkTuple tables fragment) ↔ ShowsEveryRow tables fragment

-- what an entity writes by a fragment that selects it is what its row holds in the written columns
abbrev pub EntitiesWriteRows : Schema → State → Tables → Type 0
EntitiesWriteRows schema state tables = (owner : SetId) (pairing : List Pair) (fragment : Fragment) (table : Table) → IsOwnedFragment schema owner pairing fragment table
    → (row : Row) → Contains (rows_in tables fragment.table) row → (entity : Entity) → StandsAt schema state owner pairing (row_key table row) entity
    → Selects schema.model fragment entity → map (λ cell. cell.1) (entity_cells schema.model fragment entity) ≡ cells_of row (cols_of fragment.pairs)

-- what a link writes is what the row of its host holds in the written columns
abbrev pub HostedLinksWriteRows : Schema → State → Tables → Type 0
HostedLinksWriteRows schema state tables = (owner : SetId) (pairing : List Pair) (assoc : Assoc) (fragment : LinkFragment) (table : Table)
    → IsHostedFragment schema owner pairing assoc fragment table
    → (row : Row) → Contains (rows_in tables fragment.table) row → (entity : Entity) → StandsAt schema state owner pairing (row_key table row) entity
    → (link : Link) → Contains (links_in state fragment.assoc) link → IsLinkOf schema owner pairing assoc fragment link entity
    → map (λ cell. cell.1) (link_cells schema.model assoc fragment link) ≡ cells_of row (cols_of (fragment.first ++ fragment.second))

-- what a link of a joined association writes is what its row holds in the written columns
abbrev pub JoinedLinksWriteRows : Schema → State → Tables → Type 0
JoinedLinksWriteRows schema state tables = (assoc : Assoc) (fragment : LinkFragment) (table : Table) → IsJoinedFragment schema assoc fragment table
    → (row : Row) → Contains (rows_in tables fragment.table) row → (link : Link) → Contains (links_in state fragment.assoc) link
    → IsRowOfLink schema fragment assoc table link row
    → map (λ cell. cell.1) (link_cells schema.model assoc fragment link) ≡ cells_of row (cols_of (fragment.first ++ fragment.second))

-- Where a fragment agrees with the tables, row by row.
-- Source: MSL version 3; the equations between select-project queries of Melnik, Adya and Bernstein, SIGMOD 2007.
use Rattle.std.specs.Prelude.{◌≡◌, ◌↔◌, Contains}
use Rattle.round_trip.specs.Words.{Assoc, Table, Fragment, LinkFragment, Schema, Entity, Link, Row, At, State, Tables, rows_in, row_key, entities_in, links_in, Selects, Shows, ShowsLink, written_key}
use Rattle.schema_laws.specs.state_demand.Writings.{entity_writing, link_writing}

-- the fragment writes an entity that it selects to the row
pub record IsSelectedAt (schema : Schema) (state : State) (fragment : Fragment) (table : Table) (row : Row) : Type 0 where
  pub entity : Entity
  pub stands : Contains (entities_in state fragment.set) entity
  pub selected : Selects schema.model fragment entity
  pub at_row : written_key schema.store (entity_writing schema.model fragment entity) ≡ row_key table row

-- the link fragment writes a link to the row
pub record IsLinkedAt (schema : Schema) (state : State) (fragment : LinkFragment) (table : Table) (row : Row) : Type 0 where
  pub assoc : Assoc
  pub link : Link
  pub is_assoc : At schema.model.assocs fragment.assoc.index assoc
  pub stands : Contains (links_in state fragment.assoc) link
  pub at_row : written_key schema.store (link_writing schema.model fragment assoc link) ≡ row_key table row

-- the fragment shows just those rows to which it writes
abbrev pub AgreesByRows : Schema → State → Tables → Fragment → Table → Type 0
AgreesByRows schema state tables fragment table = (row : Row) → Contains (rows_in tables fragment.table) row → IsSelectedAt schema state fragment table row ↔ Shows fragment row

-- and so does the link fragment
abbrev pub AgreesByLinkRows : Schema → State → Tables → LinkFragment → Table → Type 0
AgreesByLinkRows schema state tables fragment table =
    (row : Row) → Contains (rows_in tables fragment.table) row → IsLinkedAt schema state fragment table row ↔ ShowsLink fragment row
